-- The end of a time step: limits, the seven endings, the rising edge; and the runs of a bench.
use Rattle.std.specs.Prelude.{◌≡◌, ◌⊎◌, ℕ, zero, suc, ◌-◌, List, [], ◌∷◌, map, length, Bool, true, false, cond, not, ◌&&◌, nat_lt, nat_le, nat_eq, Option, Some, None, is_some, IsPermutation}
use Rattle.std.specs.List.{list_any}
use mathlib.Core.Logic.{inl, inr}
use Rattle.std.specs.FinMap as map
use Rattle.std.specs.FinMap.{FinMap}
use Rattle.std.specs.declared.cmp.Ordering.{Ordering}
use Rattle.order_laws.specs.Runs.{Steps}
use Rattle.bench_model.specs.Paths.{Path, path_cmp, child}
use Rattle.bench_model.specs.Log.{conflicts}
use Rattle.bench_model.specs.World.{Model, ModelLaws, Thread, Threads, World, Mode, Record, worlds, event_of}
use Rattle.bench_model.specs.World.Mode.{running, at_edges, at_joinstep, spent}

-- ---- limits

-- the actions of one time step; and at the end of a time step the threads that are there, the records and the actions of the
-- run so far, and the number of time steps
pub record Limits : Type 0 where
  pub step_actions : ℕ
  pub threads : ℕ
  pub records : ℕ
  pub run_actions : ℕ
  pub time_steps : ℕ

-- the limits that the program uses
abbrev pub standard : Limits
standard = record { step_actions = 65536; threads = 1024; records = 1048576; run_actions = 4194304; time_steps = 65536 }

-- How a run ends where it settles: this time step has a failure; the named thread is spent, with its line; the root thread has
-- ended; or one of four limits is passed.
pub data Ending : Type 0 where
  failed : Ending
  spent_at : Path → (line : ℕ) → Ending
  finished : Ending
  thread_limit : Ending
  record_limit : Ending
  action_limit : Ending
  time_limit : Ending

-- a run that has settled. The newest sample stands first
pub record Finish : Type 0 where
  pub ending : Ending
  pub time : ℕ
  pub records : List Record
  pub samples : List (List ℕ)
  pub actions : ℕ

-- WHAT IS FIXED FOR A RUN: threads and circuit, the limits, the registers after an edge, the numbers of all ports, and what the
-- first world has: inputs, registers, and what the root thread keeps.
pub record Setting : Type 1 where
  pub model : Model
  pub limits : Limits
  pub edge : (inputs registers : List ℕ) → List ℕ
  pub sample : (inputs registers : List ℕ) → List ℕ
  pub inputs : List ℕ
  pub registers : List ℕ
  pub root : model.Inner

-- what the laws of orders ask of a setting
pub record SettingLaws (S : Setting) : Type 0 where
  pub model : ModelLaws S.model
  pub root : S.model.Fits 0 [] S.root

-- ---- what ends a run

-- the thread runs
abbrev pub is_running : Mode → Bool
is_running running = true
is_running _ = false

-- nobody may act: no thread is running
abbrev pub quiet : {I : Type 0} → World I → Bool
quiet w = not (list_any (λ e. is_running e.1.mode) (map.entries w.threads))

-- a failure of this time step
abbrev pub fails_now : ℕ → Record → Bool
fails_now time r = is_some r.wanted && nat_eq r.time time

-- the spent thread of the least region, and of those the one of the least path
abbrev pub lesser : Option (ℕ × Path × ℕ) → Option (ℕ × Path × ℕ) → Option (ℕ × Path × ℕ)
lesser None o = o
lesser (Some x) None = Some x
lesser (Some x) (Some y) = cond (nat_lt y.0 x.0) (Some y) (Some x)

-- a thread that is spent, with its region, path and line
abbrev pub spent_of : ℕ → Path → Mode → Option (ℕ × Path × ℕ)
spent_of r p (spent l) = Some (r, p, l)
spent_of r p _ = None

-- the first spent thread of these
abbrev pub first_spent : {I : Type 0} → List (Path × Thread I) → Option (ℕ × Path × ℕ)
first_spent [] = None
first_spent (e ∷ es) = lesser (spent_of e.1.region e.0 e.1.mode) (first_spent es)

-- the first limit that is passed
abbrev pub limited : Limits → (threads records actions time : ℕ) → Option Ending
limited l t r a n =
    cond (nat_lt l.threads t) (Some thread_limit)
    (cond (nat_lt l.records r) (Some record_limit)
    (cond (nat_lt l.run_actions a) (Some action_limit)
    (cond (nat_le l.time_steps (suc n)) (Some time_limit) None)))

-- the run has finished where the root thread is gone
abbrev pub ended : (root : Bool) → Option Ending → Option Ending
ended true o = o
ended false o = Some finished

-- a spent thread comes first
abbrev pub or_spent : Option (ℕ × Path × ℕ) → Option Ending → Option Ending
or_spent None o = o
or_spent (Some x) o = Some (spent_at x.1 x.2)

-- HOW A TIME STEP ENDS THE RUN, or that it goes on: the first that applies of a failure, a spent thread, the end of the root
-- thread, and the limits
abbrev pub verdict : {I : Type 0} → Limits → World I → Option Ending
verdict l w =
    cond (list_any (fails_now w.time) w.records) (Some failed)
    (or_spent (first_spent (map.entries w.threads))
    (ended (is_some (map.get w.threads [])) (limited l (map.len w.threads) (length w.records) w.actions w.time)))

-- ---- the rising edge

-- the same keys, each value by f
abbrev pub map_values : {K X Y : Type 0} (R : K → K → Ordering) → (K → X → Y) → FinMap R X → FinMap R Y
map_values R f m = map.from_sorted (map (λ e. (e.0, f e.0 e.1)) (map.entries m))

-- a thread that waits no more
abbrev pub released : {I : Type 0} → Thread I → Thread I
released t = record t { mode = running; joined = None }

-- an edge brings a count of edges down, and lets go who has none left, and who waits for a child that is gone
abbrev pub tick_mode : {I : Type 0} → Threads I → Path → Thread I → Mode → Thread I
tick_mode ts p t (at_edges n) = cond (nat_le n 1) (released t) (record t { mode = at_edges (n - 1) })
tick_mode ts p t (at_joinstep k) = cond (is_some (map.get ts (child p k))) t (released t)
tick_mode ts p t _ = t

-- all threads after the edge
abbrev pub tick : {I : Type 0} → Threads I → Threads I
tick ts = map_values path_cmp (λ p t. tick_mode ts p t t.mode) ts

-- the first world of the next time step: the ports are sampled, then the registers take their next values
abbrev pub next_step : (S : Setting) → World S.model.Inner → World S.model.Inner
next_step S w = record {
  inputs = w.inputs;
  registers = S.edge w.inputs w.registers;
  threads = tick w.threads;
  log = [];
  records = w.records;
  samples = S.sample w.inputs w.registers ∷ w.samples;
  time = suc w.time;
  actions = w.actions;
}

-- the end of the run at the world w, with the sample of its last time step
abbrev pub finish : (S : Setting) → World S.model.Inner → Ending → Finish
finish S w o = record { ending = o; time = w.time; records = w.records; samples = S.sample w.inputs w.registers ∷ w.samples; actions = w.actions }

-- ---- settling

-- where nobody runs in the new time step, it settles too
abbrev pub settle_on : (S : Setting) → (World S.model.Inner → World S.model.Inner ⊎ Finish) → World S.model.Inner → (quiet : Bool) → World S.model.Inner ⊎ Finish
settle_on S again w true = again w
settle_on S again w false = inl w

-- an end, or the edge and the next time step
abbrev pub settle_by : (S : Setting) → (World S.model.Inner → World S.model.Inner ⊎ Finish) → World S.model.Inner → Option Ending → World S.model.Inner ⊎ Finish
settle_by S again w (Some o) = inr (finish S w o)
settle_by S again w None = settle_on S again (next_step S w) (quiet (next_step S w))

-- at most so many time steps are settled
abbrev pub settle_from : (S : Setting) → ℕ → World S.model.Inner → World S.model.Inner ⊎ Finish
settle_from S zero w = inr (finish S w time_limit)
settle_from S (suc n) w = settle_by S (λ v. settle_from S n v) w (verdict S.limits w)

-- SETTLE, where nobody may act: the end of the run, or else the next time step, which settles again where nobody may act in it.
-- The limit of time steps comes before the count of them is used up.
abbrev pub settle : (S : Setting) → World S.model.Inner → World S.model.Inner ⊎ Finish
settle S w = settle_from S (suc S.limits.time_steps) w

-- two settled runs are alike but for the order of their records
pub record FinishAlike (e f : Finish) : Type 0 where
  pub ending : e.ending ≡ f.ending
  pub time : e.time ≡ f.time
  pub records : IsPermutation e.records f.records
  pub samples : e.samples ≡ f.samples
  pub actions : e.actions ≡ f.actions

-- ---- runs

-- the next event of the thread conflicts with an event of the log
abbrev pub conflict_of : (M : Model) → World M.Inner → Path → Option (Thread M.Inner) → Bool
conflict_of M w p None = false
conflict_of M w p (Some t) = conflicts M.cone w.log (event_of p t (M.next t.inner))

-- THE RUNS OF A SETTING: after each act a conflict is looked for, then nobody may act and it settles, then the bound of a time
-- step is looked at
abbrev pub steps : Setting → Steps
steps S = record {
  world = worlds S.model;
  Finish = Finish;
  FinishAlike = FinishAlike;
  quiet = λ w. quiet w;
  conflict = λ w p. conflict_of S.model w p (map.get w.threads p);
  size = λ w. length w.log;
  time = λ w. w.time;
  bound = S.limits.step_actions;
  settle = λ w. settle S w;
}
