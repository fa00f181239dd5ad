-- Threads respect regions: from the rules of tests to each move.
use Rattle.std.specs.Prelude.{◌≡◌, ℕ, ◌<◌, ◌≤◌, Bool, true, false, List, [], ◌∷◌, length, Some, None, slice_index, slice_set}
use Rattle.std.specs.FinMap as map
use Rattle.tb_base.specs.declared.path.Region.{Region}
use Rattle.tl_ast.specs.declared.tree.TestText.{TestText}
use Rattle.tl_check.specs.Scopes.{Known as KnownNames, handle_named}
use Rattle.tl_check.specs.Walk.{Ports, test_rule}
use Rattle.bench_model.specs.World.{Model, FitsMove, ModelLaws}
use Rattle.tl_threads.specs.Values.{Name, Numbers}
use Rattle.tl_threads.specs.Bodies.{test_body}
use Rattle.tl_threads.specs.Threads.{Frame, Inner, next, root_of, region_number}
use Rattle.tl_threads.specs.Threads.Frame.{block, turn, again}
use Rattle.tl_threads.specs.Allowed.{Handles, Allowed}

-- the greatest region of a handle's children, where some fork gives it to a Monitor thread or none does
abbrev pub bound_of : (watches : Bool) → ℕ
bound_of true = 1
bound_of false = 0

-- the outer handles are known inside, as the same
abbrev pub HandlesWithin : (outer inner : Handles) → Type 0
HandlesWithin outer inner = (x : Name) (watches : Bool) → handle_named x outer ≡ Some watches → handle_named x inner ≡ Some watches

-- each part that remains is allowed, with handles that are known where the parts before it are
abbrev pub FramesFit : Region → Handles → List Frame → Type 0
FramesFit g hs [] = Unit {0}
FramesFit g hs (block b ∷ fs) = (n : KnownNames) × HandlesWithin n.handles hs × Allowed g n b × FramesFit g n.handles fs
FramesFit g hs (turn l e a ∷ fs) = (n : KnownNames) × HandlesWithin n.handles hs × Allowed g n a × FramesFit g n.handles fs
FramesFit g hs (again l count a ∷ fs) = (n : KnownNames) × HandlesWithin n.handles hs × Allowed g n a × FramesFit g n.handles fs

-- each known handle names a child that was forked, into no region past the handle's bound
abbrev pub HandlesFit : Handles → (handles : Numbers) → (forked : List ℕ) → Type 0
HandlesFit hs handles forked =
    (x : Name) (watches : Bool) → handle_named x hs ≡ Some watches
    → (child : ℕ) × (map.get handles x ≡ Some child) × (child < length forked) × (slice_index forked child ≤ bound_of watches)

-- A THREAD RESPECTS REGIONS, of this region and with children in these regions
pub record RespectsRegions (r : ℕ) (forked : List ℕ) (i : Inner) : Type 0 where
  pub region : Region
  pub number : region_number region ≡ r
  pub known : Handles
  pub rest : FramesFit region known i.rest
  pub handles : HandlesFit known i.handles forked
  pub forks : i.forks ≡ length forked

-- the threads of tests over a circuit: what its inputs take, the values of its signals, and their cones
abbrev pub threads_over : (limit : ℕ) → (fitted : (port raw : ℕ) → ℕ) → (value : (inputs registers : List ℕ) (signal : ℕ) → ℕ)
    → (cone : (signal port : ℕ) → Bool) → Model
threads_over limit fitted value cone =
    record { Inner = Inner; next = next limit; fitted = fitted; value = value; cone = cone; Fits = RespectsRegions }

-- EACH MOVE RESPECTS REGIONS, over any circuit, and so does what comes behind it
abbrev pub MovesFit : Type 0
MovesFit = (limit : ℕ) (fitted : (port raw : ℕ) → ℕ) (value : (inputs registers : List ℕ) (signal : ℕ) → ℕ)
    (cone : (signal port : ℕ) → Bool) (r : ℕ) (forked : List ℕ) (i : Inner) → RespectsRegions r forked i
    → FitsMove (threads_over limit fitted value cone) r forked (next limit i)

-- the root thread of a test that keeps the rules respects regions
abbrev pub RootFits : Type 0
RootFits = (ports : Ports) (test : TestText) → test_rule test ports ≡ None → RespectsRegions 0 [] (root_of (test_body ports test))

-- WHAT THE LAWS OF ORDERS ASK of threads over a circuit comes down to what they ask of the circuit: a poke of an input outside the cone
-- leaves the value of a signal
abbrev pub ThreadsMeetLaws : Type 0
ThreadsMeetLaws = (limit : ℕ) (fitted : (port raw : ℕ) → ℕ) (value : (inputs registers : List ℕ) (signal : ℕ) → ℕ)
    (cone : (signal port : ℕ) → Bool)
    → ((ins regs : List ℕ) (s p n : ℕ) → cone s p ≡ false → value (slice_set ins p n) regs s ≡ value ins regs s)
    → ModelLaws (threads_over limit fitted value cone)
