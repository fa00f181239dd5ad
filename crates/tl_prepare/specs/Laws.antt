-- What is proved of prepared actions.
use Rattle.std.specs.Prelude.{◌≡◌, ℕ, ◌<◌, Some, length, slice_get}
use Rattle.tl_code.specs.declared.state.ThreadState.{ThreadState}
use Rattle.tl_threads.specs.Stands.{Fulfils}
use Rattle.tl_threads.specs.Threads.{Inner, next}
use Rattle.tl_code.specs.Compiled.{Compiled}
use Rattle.tl_threads.specs.declared.code.Placed.{Placed}
use Rattle.tl_code.specs.Codes.{IsCode, NamesChild, IsJoined, OwnChildren, Fits, Holds, places}
use Rattle.tl_code.specs.Laws.{StandsUnder}
use Rattle.tl_prepare.specs.Work.{Work}
use Rattle.tl_prepare.specs.Given.{most_local, IsPrepared}

-- WHAT IS PREPARED IS THE THREAD'S NEXT MOVE, under each code that has the instructions that were read and under which the state stands for
-- the thread
abbrev pub PreparedIsNext : Type 0
PreparedIsNext = (c : Compiled) (w : Work) (i : Inner) (p : IsPrepared w) → StandsUnder c w.from i → Holds c w.fetched
    → Fulfils c.variables c.handles (places c) (length w.from.path) w.from.region p.done (next most_local i)

-- what is prepared of a state that names its own children alone names its own children alone
abbrev pub ChildrenStayOwn : Type 0
ChildrenStayOwn = (w : Work) → IsPrepared w → OwnChildren w.from
    → OwnChildren w.next × IsJoined w.next w.next.joined × ((child : ThreadState) → w.child ≡ Some child → OwnChildren child × IsJoined child child.joined)

-- what fits what is placed at its place, however many acts and forks it has taken
pub record InPlace (x : Placed) (c : Compiled) (s : ThreadState) : Type 0 where
  pub path : length s.path ≡ x.depth
  pub region : s.region ≡ x.region
  pub locals : length s.locals ≡ c.variables
  pub slots : length s.handles ≡ c.handles
  pub children : (k : ℕ) → k < x.handles → NamesChild s k
  pub joined : IsJoined s s.joined
  pub loops : length s.loops ≡ x.loops

-- the state fits the code, but for the bounds on acts and forks
abbrev pub FitsButCounts : Compiled → ThreadState → Type 0
FitsButCounts c s = (x : Placed) × (slice_get c.placed s.pc ≡ Some x) × InPlace x c s

-- WHAT IS PREPARED FITS AGAIN, but for the bounds, under each code that `from` fits and that has the instructions that were read
abbrev pub PreparedFits : Type 0
PreparedFits = (c : Compiled) (w : Work) → IsCode c → IsPrepared w → Fits c w.from → Holds c w.fetched
    → FitsButCounts c w.next × ((child : ThreadState) → w.child ≡ Some child → FitsButCounts c child)

-- within the bounds it fits
abbrev pub FitsWithinBounds : Type 0
FitsWithinBounds = (c : Compiled) (s : ThreadState) → FitsButCounts c s → s.acts < 4294967295 → s.forks < 4294967295 → Fits c s
