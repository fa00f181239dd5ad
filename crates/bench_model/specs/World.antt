-- Worlds of a bench: what a thread does next, what its act leaves, and who may act.
use Rattle.std.specs.Prelude.{◌≡◌, ℕ, suc, ◌<◌, ◌≤◌, List, [], ◌∷◌, ◌++◌, length, Bool, false, cond, nat_eq, Option, Some, None, is_some, slice_index, slice_set, option_map, IsPermutation}
use Rattle.std.specs.FinMap as map
use Rattle.std.specs.FinMap.{FinMap}
use Rattle.bench_model.specs.Paths.{Path, path_cmp, child, parent}
use Rattle.bench_model.specs.Log.{Kind, Event, NoConflict, LogAlike}
use Rattle.order_laws.specs.System.{System}
use Rattle.bench_model.specs.Log.Kind.{pokes, peeks, expects, forks, joins, arrives, joinsteps, spends, ends}

-- WHAT A THREAD DOES NEXT. I is what a thread keeps between two acts: statements, variables, handles, kept values.
-- A poke goes on by what the input held before, a peek by what it read. A peek makes a record where `shown` is true. A handle is
-- the number of a child, in the order of its parent's forks.
pub data Move (I : Type 0) : Type 0 where
  poke : (line port raw : ℕ) → (ℕ → I) → Move I
  peek : (line signal : ℕ) → (shown : Bool) → (ℕ → I) → Move I
  expect : (line signal wanted : ℕ) → I → Move I
  fork : (line region : ℕ) → I → I → Move I
  join : (line handle : ℕ) → I → Move I
  arrive : (line edges : ℕ) → I → Move I
  joinstep : (line handle : ℕ) → I → Move I
  spend : (line : ℕ) → Move I
  end : Move I

-- WHAT A WORLD IS OVER: the threads of a test, and a circuit.
pub record Model : Type 1 where
  -- what a thread keeps between two acts, and what it does next
  pub Inner : Type 0
  pub next : Inner → Move Inner
  -- what an input takes of a number that is poked: its low bits
  pub fitted : (port raw : ℕ) → ℕ
  -- the number that a peek of a signal reads under inputs and registers, and the inputs that it may depend on
  pub value : (inputs registers : List ℕ) (signal : ℕ) → ℕ
  pub cone : (signal port : ℕ) → Bool
  -- what a thread of this region will do respects regions, where its children so far were forked into these regions
  pub Fits : (region : ℕ) (forked : List ℕ) → Inner → Type 0

-- what a thread waits for: nothing, the end of a child, a number of edges, the first edge after the end of a child, or for ever
pub data Mode : Type 0 where
  running : Mode
  at_join : ℕ → Mode
  at_edges : ℕ → Mode
  at_joinstep : ℕ → Mode
  spent : ℕ → Mode

-- A thread. `forked` lists the regions of its children, the first one first, so its length is the number of its forks; `acts` is
-- the number of its acts; `joined` is the number of the child that its last act joined, if that was a join.
pub record Thread (I : Type 0) : Type 0 where
  pub region : ℕ
  pub mode : Mode
  pub inner : I
  pub forked : List ℕ
  pub acts : ℕ
  pub joined : Option ℕ

-- what a peek or a failed expect leaves in the report. `place` is the number of acts of its thread before; `wanted` is there
-- exactly for a failure
pub record Record : Type 0 where
  pub time : ℕ
  pub region : ℕ
  pub path : Path
  pub place : ℕ
  pub line : ℕ
  pub signal : ℕ
  pub value : ℕ
  pub wanted : Option ℕ

-- the threads that are there, by path
abbrev pub Threads : Type 0 → Type 0
Threads I = FinMap path_cmp (Thread I)

-- A WORLD. The newest event, record and sample stand first; `log` has the events of this time step alone.
pub record World (I : Type 0) : Type 0 where
  pub inputs : List ℕ
  pub registers : List ℕ
  pub threads : Threads I
  pub log : List Event
  pub records : List Record
  pub samples : List (List ℕ)
  pub time : ℕ
  pub actions : ℕ

-- ---- an act

-- the line of the statement that acts; the end of a thread has none
abbrev pub line_of : {I : Type 0} → Move I → ℕ
line_of (poke l p v i) = l
line_of (peek l s b i) = l
line_of (expect l s v i) = l
line_of (fork l r c i) = l
line_of (join l k i) = l
line_of (arrive l n i) = l
line_of (joinstep l k i) = l
line_of (spend l) = l
line_of end = 0

-- what the act shows to others
abbrev pub kind_of : {I : Type 0} → Path → Thread I → Move I → Kind
kind_of p t (poke l q v i) = pokes q
kind_of p t (peek l s b i) = peeks s
kind_of p t (expect l s v i) = expects s
kind_of p t (fork l r c i) = forks (child p (length t.forked))
kind_of p t (join l k i) = joins (child p k)
kind_of p t (arrive l n i) = arrives
kind_of p t (joinstep l k i) = joinsteps (child p k)
kind_of p t (spend l) = spends
kind_of p t end = ends

-- the event that the act adds to the log
abbrev pub event_of : {I : Type 0} → Path → Thread I → Move I → Event
event_of p t m = record { path = p; region = t.region; joined = option_map (λ k. child p k) t.joined; line = line_of m; kind = kind_of p t m }

-- what the act learns from the circuit: what an input held before a poke, or what was read
abbrev pub answer : (M : Model) → (inputs registers : List ℕ) → Move M.Inner → ℕ
answer M ins regs (poke l p v i) = slice_index ins p
answer M ins regs (peek l s b i) = M.value ins regs s
answer M ins regs (expect l s v i) = M.value ins regs s
answer M ins regs _ = 0

-- what the act learns from the threads: whether the child that it joins is still there
abbrev pub is_there : {I : Type 0} → Threads I → Path → Move I → Bool
is_there ts p (join l k i) = is_some (map.get ts (child p k))
is_there ts p _ = false

-- the thread with one more act
abbrev pub went : {I : Type 0} → Thread I → I → Mode → Option ℕ → List ℕ → Thread I
went t i mode joined forked = record { region = t.region; mode = mode; inner = i; forked = forked; acts = suc t.acts; joined = joined }

-- the thread after its act; its end removes it
abbrev pub self_after : {I : Type 0} → Thread I → Move I → (answer : ℕ) → (there : Bool) → Option (Thread I)
self_after t (poke l p v i) a b = Some (went t (i a) running None t.forked)
self_after t (peek l s c i) a b = Some (went t (i a) running None t.forked)
self_after t (expect l s v i) a b = Some (went t i running None t.forked)
self_after t (fork l r c i) a b = Some (went t i running None (t.forked ++ r ∷ []))
self_after t (join l k i) a b = Some (went t i (cond b (at_join k) running) (Some k) t.forked)
self_after t (arrive l n i) a b = Some (went t i (at_edges n) None t.forked)
self_after t (joinstep l k i) a b = Some (went t i (at_joinstep k) None t.forked)
self_after t (spend l) a b = Some (went t t.inner (spent l) None t.forked)
self_after t end a b = None

-- the thread that a fork makes, under the next number of its parent
abbrev pub newborn : {I : Type 0} → Path → Thread I → Move I → Option (Path × Thread I)
newborn p t (fork l r c i) = Some (child p (length t.forked), record { region = r; mode = running; inner = c; forked = []; acts = 0; joined = None })
newborn p t _ = None

-- the thread that an act may wake, and for which child: the end of a child wakes its parent where that waits for it by a join
abbrev pub wakes : {I : Type 0} → Path → Move I → Option (Path × ℕ)
wakes p end = parent p
wakes p _ = None

-- a thread that waits for its child k by a join runs; others stay as they are
abbrev pub woken_mode : ℕ → Mode → Mode
woken_mode k (at_join j) = cond (nat_eq j k) running (at_join j)
woken_mode k mode = mode

-- the thread after the end of its child k
abbrev pub woken : {I : Type 0} → ℕ → Thread I → Thread I
woken k t = record t { mode = woken_mode k t.mode }

-- ---- the world after an act

-- the threads with one of them replaced or removed
abbrev pub write : {I : Type 0} → Threads I → Path → Option (Thread I) → Threads I
write ts p None = map.remove ts p
write ts p (Some t) = map.insert ts p t

-- the threads after that waking, if there is one
abbrev pub wake : {I : Type 0} → Threads I → Option (Path × ℕ) → Threads I
wake ts None = ts
wake ts (Some (q, k)) = write ts q (option_map (woken k) (map.get ts q))

-- the threads after that birth, if there is one
abbrev pub birth : {I : Type 0} → Threads I → Option (Path × Thread I) → Threads I
birth ts None = ts
birth ts (Some (c, u)) = write ts c (Some u)

-- all threads after the act of p: one may be woken, one may be born, and p itself has acted
abbrev pub threads_after : {I : Type 0} → Threads I → Path → Thread I → Move I → ℕ → Threads I
threads_after ts p t m a = write (birth (wake ts (wakes p m)) (newborn p t m)) p (self_after t m a (is_there ts p m))

-- a poke sets one input
abbrev pub inputs_after : (M : Model) → List ℕ → Move M.Inner → List ℕ
inputs_after M ins (poke l p v i) = slice_set ins p (M.fitted p v)
inputs_after M ins _ = ins

-- the record of a peek or of an expect
abbrev pub record_of : {I : Type 0} → ℕ → Path → Thread I → (line signal value : ℕ) → Option ℕ → Record
record_of time p t line signal value wanted = record { time = time; region = t.region; path = p; place = t.acts; line = line; signal = signal; value = value; wanted = wanted }

-- a peek that is shown makes a record, and so does an expect that finds another number than it wants
abbrev pub recorded : {I : Type 0} → ℕ → Path → Thread I → Move I → ℕ → List Record
recorded time p t (peek l s b i) a = cond b (record_of time p t l s a None ∷ []) []
recorded time p t (expect l s v i) a = cond (nat_eq a v) [] (record_of time p t l s a (Some v) ∷ [])
recorded time p t _ a = []

-- the world after the act of the thread that stands at p; nobody there leaves it as it is
abbrev pub act_of : (M : Model) → World M.Inner → Path → Option (Thread M.Inner) → World M.Inner
act_of M w p None = w
act_of M w p (Some t) =
    let m = M.next t.inner in
    record {
      inputs = inputs_after M w.inputs m;
      registers = w.registers;
      threads = threads_after w.threads p t m (answer M w.inputs w.registers m);
      log = event_of p t m ∷ w.log;
      records = recorded w.time p t m (answer M w.inputs w.registers m) ++ w.records;
      samples = w.samples;
      time = w.time;
      actions = suc w.actions;
    }

-- THE WORLD AFTER THE ACT OF p
abbrev pub act : (M : Model) → World M.Inner → Path → World M.Inner
act M w p = act_of M w p (map.get w.threads p)

-- ---- who may act

-- the thread waits for nothing
abbrev pub IsRunning : {I : Type 0} → Thread I → Type 0
IsRunning t = t.mode ≡ running

-- p is running, and no running thread has a lesser region
pub record Enabled {I : Type 0} (w : World I) (p : Path) : Type 0 where
  pub thread : Thread I
  pub here : map.get w.threads p ≡ Some thread
  pub runs : IsRunning thread
  pub least : (q : Path) (u : Thread I) → map.get w.threads q ≡ Some u → IsRunning u → thread.region ≤ u.region

-- the act of p meets no conflict
abbrev pub CleanAct : (M : Model) → World M.Inner → Path → Type 0
CleanAct M w p = (t : Thread M.Inner) → map.get w.threads p ≡ Some t → NoConflict M.cone w.log (event_of p t (M.next t.inner))

-- TWO WORLDS ARE ALIKE where they are equal but for the order of records and log, and the logs have the same events with the same
-- "before"
pub record WorldAlike {I : Type 0} (w v : World I) : Type 0 where
  pub inputs : w.inputs ≡ v.inputs
  pub registers : w.registers ≡ v.registers
  pub threads : w.threads ≡ v.threads
  pub log : LogAlike w.log v.log
  pub records : IsPermutation w.records v.records
  pub samples : w.samples ≡ v.samples
  pub time : w.time ≡ v.time
  pub actions : w.actions ≡ v.actions

-- what the next move of a thread that fits keeps: children are forked into no lesser region, and a child that is joined was
-- forked and is of no greater region
abbrev pub FitsMove : (M : Model) → ℕ → List ℕ → Move M.Inner → Type 0
FitsMove M r forked (poke l p v i) = (a : ℕ) → M.Fits r forked (i a)
FitsMove M r forked (peek l s b i) = (a : ℕ) → M.Fits r forked (i a)
FitsMove M r forked (expect l s v i) = M.Fits r forked i
FitsMove M r forked (fork l q c i) = (r ≤ q) × M.Fits q [] c × M.Fits r (forked ++ q ∷ []) i
FitsMove M r forked (join l k i) = (k < length forked) × (slice_index forked k ≤ r) × M.Fits r forked i
FitsMove M r forked (arrive l n i) = M.Fits r forked i
FitsMove M r forked (joinstep l k i) = M.Fits r forked i
FitsMove M r forked (spend l) = Unit {0}
FitsMove M r forked end = Unit {0}

-- WHAT THE LAWS OF ORDERS ASK OF A MODEL: a poke of an input outside the cone leaves the value of a signal, and threads respect
-- regions, move by move
pub record ModelLaws (M : Model) : Type 0 where
  pub value_apart : (ins regs : List ℕ) (s p v : ℕ) → M.cone s p ≡ false → M.value (slice_set ins p v) regs s ≡ M.value ins regs s
  pub fits_next : (r : ℕ) (forked : List ℕ) (i : M.Inner) → M.Fits r forked i → FitsMove M r forked (M.next i)

-- what holds of each world that an order reaches
pub record Possible (M : Model) (w : World M.Inner) : Type 0 where
  -- no thread is there under a child's number that its parent has not yet used
  pub fresh : (p : Path) (t : Thread M.Inner) (k : ℕ) (q : Path) (u : Thread M.Inner) → map.get w.threads p ≡ Some t → map.get w.threads (p ++ k ∷ q) ≡ Some u → k < length t.forked
  -- the child that a running thread has joined is gone
  pub joined : (p : Path) (t : Thread M.Inner) (k : ℕ) → map.get w.threads p ≡ Some t → t.mode ≡ running → t.joined ≡ Some k → map.get w.threads (child p k) ≡ None
  pub fits : (p : Path) (t : Thread M.Inner) → map.get w.threads p ≡ Some t → M.Fits t.region t.forked t.inner
  -- a child has the region into which it was forked
  pub regions : (p : Path) (t : Thread M.Inner) (k : ℕ) (u : Thread M.Inner) → map.get w.threads p ≡ Some t → map.get w.threads (child p k) ≡ Some u → u.region ≡ slice_index t.forked k
  -- a thread waits for no child of a greater region, and for the child that it joined
  pub waits : (p : Path) (t : Thread M.Inner) (k : ℕ) → map.get w.threads p ≡ Some t → t.mode ≡ at_join k → (slice_index t.forked k ≤ t.region) × (t.joined ≡ Some k)
  -- a child that was joined was forked
  pub used : (p : Path) (t : Thread M.Inner) (k : ℕ) → map.get w.threads p ≡ Some t → t.joined ≡ Some k → k < length t.forked

-- the worlds of a model as a machine
abbrev pub worlds : Model → System
worlds M = record {
  State = World M.Inner;
  Actor = Path;
  Alike = λ w v. WorldAlike w v;
  Possible = λ w. Possible M w;
  Enabled = λ w p. Enabled w p;
  Clean = λ w p. CleanAct M w p;
  act = λ w p. act M w p;
}
