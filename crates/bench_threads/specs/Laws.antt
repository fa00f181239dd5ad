-- What is proved of threads, without a table: who runs, who is spent, and the edges ahead.
use Rattle.std.specs.Prelude.{ℕ, suc, max, ◌≡◌, ◌↔◌, ◌≤◌, true, false, cond, Option, Some, None, is_some}
use Rattle.std.specs.FinMap as map
use Rattle.bench_model.specs.Paths.{Path}
use Rattle.tl_code.specs.declared.state.ThreadState.{ThreadState}
use Rattle.bench_threads.specs.declared.entry.Entry.{Entry}
use Rattle.bench_threads.specs.declared.entry.Mode.{Mode}
use Rattle.bench_threads.specs.declared.entry.Mode.TheVariants.{Running, AtJoin, AtEdges, AtJoinStep, Spent}
use Rattle.bench_threads.specs.Shelves.{Threads}
use Rattle.bench_threads.specs.Tables.{standing, started}
use Rattle.bench_threads.specs.Threads.{quiet, first_spent, change, woken, tick, edges_ahead, sooner, is_awaited}

-- some thread runs
pub record Runs (ts : Threads) : Type 0 where
  pub at : Path
  pub entry : Entry
  pub there : map.get ts at ≡ Some entry
  pub is : entry.mode ≡ Running

-- NOBODY MAY ACT EXACTLY WHERE NO THREAD RUNS
abbrev pub QuietIsNobody : Type 0
QuietIsNobody = (ts : Threads) → (quiet ts ≡ false) ↔ Runs ts

-- WHERE A THREAD IS SPENT, ONE IS NAMED
abbrev pub SpentIsNamed : Type 0
SpentIsNamed = (ts : Threads) (p : Path) (e : Entry) (l : ℕ) → map.get ts p ≡ Some e → e.mode ≡ Spent l → is_some (first_spent (map.entries ts)) ≡ true

-- at most so many edges, where None is more than each number
abbrev pub AtMost : Option ℕ → Option ℕ → Type 0
AtMost a None = Unit {0}
AtMost None (Some m) = ⊥
AtMost (Some n) (Some m) = n ≤ m

-- NO THREAD THAT WAITS RUNS BEFORE AN EDGE
abbrev pub EdgeNeeded : Type 0
EdgeNeeded = (ts : Threads) (n : ℕ) → edges_ahead ts ≡ Some n → 1 ≤ n

-- AN EDGE THAT LETS NOBODY GO BRINGS THE NEXT ONE NEARER BY ONE
abbrev pub EdgesCount : Type 0
EdgesCount = (ts : Threads) (n : ℕ) → quiet ts ≡ true → edges_ahead ts ≡ Some (suc (suc n)) → (quiet (tick ts) ≡ true) × (edges_ahead (tick ts) ≡ Some (suc n))

-- WHERE ONE EDGE IS AHEAD, IT LETS SOMEBODY GO
abbrev pub LastEdge : Type 0
LastEdge = (ts : Threads) → quiet ts ≡ true → edges_ahead ts ≡ Some 1 → quiet (tick ts) ≡ false

-- WHERE NONE IS AHEAD, NO EDGE LETS ANYBODY GO
abbrev pub NoEdgeAhead : Type 0
NoEdgeAhead = (ts : Threads) → quiet ts ≡ true → edges_ahead ts ≡ None → (quiet (tick ts) ≡ true) × (edges_ahead (tick ts) ≡ None)

-- the edges ahead after the thread of path p goes on as s, and waits for something from then on
pub record GoesOn (ts : Threads) (p : Path) (s : ThreadState) : Type 0 where
  pub runs : edges_ahead (map.insert ts p (standing s Running)) ≡ edges_ahead ts
  pub waits_edges : (n : ℕ) → edges_ahead (map.insert ts p (standing s (AtEdges n))) ≡ sooner (edges_ahead ts) (Some (max n 1))
  pub waits_end : (c : Path) → edges_ahead (map.insert ts p (standing s (AtJoinStep c))) ≡ cond (is_some (map.get ts c)) (edges_ahead ts) (Some 1)
  pub joins : (c : Path) → edges_ahead (map.insert ts p (standing s (AtJoin c))) ≡ edges_ahead ts
  pub spent : (l : ℕ) → edges_ahead (map.insert ts p (standing s (Spent l))) ≡ edges_ahead ts
  pub at_most : (k : Mode) → AtMost (edges_ahead (map.insert ts p (standing s k))) (edges_ahead ts)

-- the edges ahead after the thread of path p has ended
pub record Ends (ts : Threads) (p : Path) : Type 0 where
  pub is : edges_ahead (map.remove ts p) ≡ cond (is_awaited ts p) (Some 1) (edges_ahead ts)
  pub at_most : AtMost (edges_ahead (map.remove ts p)) (edges_ahead ts)

-- WHAT A RUNNING THREAD DOES LEAVES THE EDGES AHEAD, OR BRINGS THE FIRST NEARER
abbrev pub ActsBringEdges : Type 0
ActsBringEdges = (ts : Threads) (p : Path) (e : Entry) (s : ThreadState) → map.get ts p ≡ Some e → e.mode ≡ Running → GoesOn ts p s

-- AND SO DOES ITS END
abbrev pub EndsBringEdges : Type 0
EndsBringEdges = (ts : Threads) (p : Path) (e : Entry) → map.get ts p ≡ Some e → e.mode ≡ Running → Ends ts p

-- A BIRTH LEAVES THE EDGES AHEAD, where nobody waits at a joinstep for who is born
abbrev pub BirthsBringNoEdge : Type 0
BirthsBringNoEdge = (ts : Threads) (c : Path) (s : ThreadState) → map.get ts c ≡ None → is_awaited ts c ≡ false → edges_ahead (map.insert ts c (started s)) ≡ edges_ahead ts

-- A WAKE LEAVES THE EDGES AHEAD
abbrev pub WakesBringNoEdge : Type 0
WakesBringNoEdge = (ts : Threads) (p c : Path) → edges_ahead (change (woken c) ts p) ≡ edges_ahead ts
