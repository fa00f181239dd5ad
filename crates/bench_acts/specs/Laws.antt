-- What is proved of the commit of a prepared act.
use Rattle.std.specs.Prelude.{◌≡◌, ℕ, ◌<◌, [], ◌∷◌, ◌++◌, length, map, true, false, Option, Some, None, is_some, is_none, IfSome}
use Rattle.std.specs.Option.{option_to_list}
use Rattle.std.specs.FinMap as fin
use Rattle.bench_model.specs.Paths.{Path, child}
use Rattle.bench_model.specs.World as m
use Rattle.bench_model.specs.World.Move.{poke, peek, expect, fork, join, arrive, joinstep, spend, end}
use Rattle.tl_threads.specs.Threads.{Inner, region_number, most_local, next}
use Rattle.tl_code.specs.declared.state.ThreadState.{ThreadState}
use Rattle.tl_code.specs.Compiled.{Compiled}
use Rattle.tl_code.specs.Codes.{Holds}
use Rattle.tl_prepare.specs.declared.act.Act.{Act}
use Rattle.tl_prepare.specs.declared.act.Act.TheVariants as act
use Rattle.tl_prepare.specs.Work.{Work}
use Rattle.tl_prepare.specs.Given.{IsPrepared}
use Rattle.order_rel.specs.Logs.{event_told}
use Rattle.bench_threads.specs.declared.entry.Entry.{Entry}
use Rattle.bench_threads.specs.Shelves.{Threads}
use Rattle.bench_stands.specs.Standing.{TableStands}
use Rattle.bench_acts.specs.Events.{event_of}
use Rattle.bench_run.specs.Told.{record_told}
use Rattle.bench_acts.specs.Observations.{observed}
use Rattle.bench_acts.specs.Behind.{is_read}
use Rattle.bench_acts.specs.After.{threads_after}

-- WHAT IS PREPARED FITS A TABLE: it was prepared from the state of a thread that is there, the code has the instructions that were read, and
-- the table stands for the threads of a world, in which `thread` has the path of that state
pub record Committed (c : Compiled) (ts : Threads) (ws : m.Threads Inner) (w : Work) (entry : Entry) (thread : m.Thread Inner) : Type 0 where
  pub stands : TableStands c ts ws
  pub prepared : IsPrepared w
  pub held : Holds c w.fetched
  pub here : fin.get ts w.from.path ≡ Some entry
  pub state : entry.state ≡ w.from
  pub there : fin.get ws w.from.path ≡ Some thread

-- THE ACT IS THE MOVE of a thread at p that has forked n children: the same statement, with the same port, number and child. A child begins
-- exactly where it is a fork
abbrev pub ActTold : (p : Path) → (n : ℕ) → Act → (begun : Option ThreadState) → m.Move Inner → Type 0
ActTold p n (act.Poke l port raw) begun move = (begun ≡ None) × (i : ℕ → Inner) × (move ≡ poke l port.0 raw i)
ActTold p n (act.Peek l port into) begun move = (begun ≡ None) × (i : ℕ → Inner) × (move ≡ peek l port.0 (is_none into) i)
ActTold p n (act.Expect l port wanted) begun move = (begun ≡ None) × (i : Inner) × (move ≡ expect l port.0 wanted i)
ActTold p n (act.Fork l path) begun move =
    (s : ThreadState) × (begun ≡ Some s) × (path ≡ child p n) × (s.path ≡ child p n)
    × (born : Inner) × (i : Inner) × (move ≡ fork l (region_number s.region) born i)
ActTold p n (act.Join l path) begun move = (begun ≡ None) × (k : ℕ) × (path ≡ child p k) × (i : Inner) × (move ≡ join l k i)
ActTold p n (act.Arrive l edges) begun move = (begun ≡ None) × (i : Inner) × (move ≡ arrive l edges i)
ActTold p n (act.JoinStep l path) begun move = (begun ≡ None) × (k : ℕ) × (path ≡ child p k) × (i : Inner) × (move ≡ joinstep l k i)
ActTold p n (act.Spend l) begun move = (begun ≡ None) × (move ≡ spend l)
ActTold p n act.End begun move = (begun ≡ None) × (move ≡ end)

-- THE ACT OF THE CODE IS THE ACT OF THE WORLD'S THREAD: its event, all threads after it and what is observed, whatever number it reads
pub record ActsAs (c : Compiled) (ts : Threads) (ws : m.Threads Inner) (w : Work) (thread : m.Thread Inner) (move : m.Move Inner) : Type 0 where
  pub event : event_told (event_of w.from w.act) ≡ m.event_of w.from.path thread move
  pub threads : (x : ℕ) → TableStands c (threads_after ts w x) (m.threads_after ws w.from.path thread move x)
  pub told : ActTold w.from.path (length thread.forked) w.act w.child move
  pub seen : (time x : ℕ) → map record_told (option_to_list (observed time w.from w.act x)) ≡ m.recorded time w.from.path thread move x

-- WHAT IS COMMITTED IS THE NEXT ACT OF ITS THREAD
abbrev pub CommitIsAct : Type 0
CommitIsAct = (c : Compiled) (ts : Threads) (ws : m.Threads Inner) (w : Work) (entry : Entry) (thread : m.Thread Inner)
    → Committed c ts ws w entry thread → ActsAs c ts ws w thread (next most_local thread.inner)

-- no thread is there under a child's number that this one has not yet used
abbrev pub NumbersLeft : m.Threads Inner → Path → m.Thread Inner → Type 0
NumbersLeft ws p t = (k : ℕ) (u : m.Thread Inner) → fin.get ws (p ++ k ∷ []) ≡ Some u → k < length t.forked

-- the thread is there, and none is there with the path of the child that begins
pub record MayAdvance (ts : Threads) (w : Work) : Type 0 where
  pub there : is_some (fin.get ts w.next.path) ≡ true
  pub absent : IfSome w.child (λ child. fin.get ts child.path ≡ None)

-- what is committed may be carried out
abbrev pub CommitMayAdvance : Type 0
CommitMayAdvance = (c : Compiled) (ts : Threads) (ws : m.Threads Inner) (w : Work) (entry : Entry) (thread : m.Thread Inner)
    → Committed c ts ws w entry thread → NumbersLeft ws w.from.path thread → MayAdvance ts w

-- an act that reads nothing leaves and shows the same, whatever number is given for what it read
abbrev pub OthersReadNothing : Type 0
OthersReadNothing = (ts : Threads) (w : Work) (time x y : ℕ) → is_read w.act ≡ false
    → (threads_after ts w x ≡ threads_after ts w y) × (observed time w.from w.act x ≡ observed time w.from w.act y)
