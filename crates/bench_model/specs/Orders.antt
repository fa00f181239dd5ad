-- Permitted orders, the one-thread order, outcomes, and what a run gives.
use Rattle.std.specs.Prelude.{◌≡◌, ℕ, ◌*◌, ◌≤◌, max, List, [], ◌∷◌, ◌++◌, length, reverse, Bool, false, cond, not, ◌&&◌, nat_lt, Option, Some, None, option_map}
use Rattle.std.specs.List.{list_any}
use Rattle.std.specs.FinMap as map
use Rattle.order_laws.specs.System.{Permitted, after}
use Rattle.order_laws.specs.Runs.{Run, going, settled, conflicted, bounded, runs, Fine}
use Rattle.order_laws.specs.EveryOrder.{chosen, actions_at, Settled, IsOver}
use Rattle.bench_model.specs.Paths.{Path}
use Rattle.bench_model.specs.Log.{Event, least_place, event_at}
use Rattle.bench_model.specs.Conflict.{IsFirstPair, HasAt, IsFree}
use Rattle.bench_model.specs.Formed.{Formed}
use Rattle.bench_model.specs.Sorting.{record_le, sorted}
use Rattle.bench_model.specs.World.{Thread, World, Record, Enabled, act}
use Rattle.bench_model.specs.World.Mode.{running}
use Rattle.bench_model.specs.Settle.{Ending, is_running, Setting, Finish, steps}

-- ---- orders

-- the root thread at the start
abbrev pub root_thread : {I : Type 0} → I → Thread I
root_thread i = record { region = 0; mode = running; inner = i; forked = []; acts = 0; joined = None }

-- the first world: the root thread, and nothing done
abbrev pub first_world : (S : Setting) → World S.model.Inner
first_world S = record {
  inputs = S.inputs;
  registers = S.registers;
  threads = map.insert map.empty [] (root_thread S.root);
  log = [];
  records = [];
  samples = [];
  time = 0;
  actions = 0;
}

-- where a run of this setting stands
abbrev pub RunOf : Setting → Type 0
RunOf S = Run (World S.model.Inner) Finish

-- the start of a run
abbrev pub start : (S : Setting) → RunOf S
start S = going [] (first_world S)

-- THE REPLAY of an order, which is a list of paths: where the run stands after these acts
abbrev pub replay : (S : Setting) → List Path → RunOf S
replay S order = after (runs (steps S)) (start S) order

-- AN ORDER IS PERMITTED where each of its paths is enabled when its turn comes, and the run has no outcome before
abbrev pub Permits : (S : Setting) → List Path → Type 0
Permits S order = Permitted (runs (steps S)) (start S) order

-- the order settles
abbrev pub Settles : (S : Setting) → List Path → Type 0
Settles S order = Settled (replay S order)

-- ---- the one-thread order

-- the thread is running, and no running thread has a lesser region
abbrev pub is_enabled : {I : Type 0} → World I → Option (Thread I) → Bool
is_enabled w None = false
is_enabled w (Some t) = is_running t.mode && not (list_any (λ e. is_running e.1.mode && nat_lt e.1.region t.region) (map.entries w.threads))

-- the first of these paths that is enabled
abbrev pub first_enabled : {I : Type 0} → World I → List Path → Option Path
first_enabled w [] = None
first_enabled w (p ∷ ps) = cond (is_enabled w (map.get w.threads p)) (Some p) (first_enabled w ps)

-- the least enabled path
abbrev pub least : {I : Type 0} → World I → Option Path
least w = first_enabled w (map.keys w.threads)

-- nobody acts once there is an outcome
abbrev pub least_of_run : {I : Type 0} → Run (World I) Finish → Option Path
least_of_run (going times w) = least w
least_of_run _ = None

-- at most so many acts of the least enabled path at each turn
abbrev pub first_order_within : (S : Setting) → ℕ → List Path
first_order_within S n = chosen (runs (steps S)) (λ r. least_of_run r) n (start S)

-- the bound on its acts: those of one time step, at least 1, in each time step, of which there is at least 1
abbrev pub act_bound : Setting → ℕ
act_bound S = max 1 S.limits.time_steps * max 1 S.limits.step_actions

-- THE ONE-THREAD ORDER: the least enabled path at each turn, until there is an outcome
abbrev pub first_order : (S : Setting) → List Path
first_order S = first_order_within S (act_bound S)

-- ---- outcomes

-- A conflict of two events, the limit of one time step, or a run that has settled; each with the time step.
pub data Outcome : Type 0 where
  conflict : (time : ℕ) → (first second : Event) → Outcome
  step_limit : (time : ℕ) → Outcome
  settles : (time : ℕ) → Ending → Outcome

-- WHAT A RUN GIVES: its records sorted, the sample of each time step, the oldest first, its number of actions and its outcome
pub record Result : Type 0 where
  pub records : List Record
  pub samples : List (List ℕ)
  pub actions : ℕ
  pub outcome : Outcome

-- the event at a place, if there is one
abbrev pub event_found : List Event → Option ℕ → Option Event
event_found log None = None
event_found log (Some i) = event_at log i

-- the two events that a conflict names
abbrev pub named_pair : (cone : ℕ → ℕ → Bool) → List Event → Option (Event × Event)
named_pair cone [] = None
named_pair cone (e ∷ log) = option_map (λ d. (d, e)) (event_found log (least_place cone log e))

-- what a run gives that stops at the world w
abbrev pub world_result : {I : Type 0} → World I → Outcome → Result
world_result w o = record { records = sorted record_le w.records; samples = reverse w.samples; actions = w.actions; outcome = o }

-- the result of a run that has an outcome
abbrev pub run_of : (S : Setting) → RunOf S → Option Result
run_of S (going times w) = None
run_of S (settled times e) = Some (record { records = sorted record_le e.records; samples = reverse e.samples; actions = e.actions; outcome = settles e.time e.ending })
run_of S (conflicted times w) = option_map (λ pair. world_result w (conflict w.time pair.0 pair.1)) (named_pair S.model.cone w.log)
run_of S (bounded times w) = Some (world_result w (step_limit w.time))

-- the actions of an order in a time step
abbrev pub actions_in : (S : Setting) → (time : ℕ) → List Path → ℕ
actions_in S time order = actions_at time (replay S order)

-- ---- what is claimed

-- what an order that settles says of every permitted order
pub record FollowsOrder (S : Setting) (order other : List Path) : Type 0 where
  -- it meets no conflict and not the limit of a time step
  pub clean : Fine (replay S other)
  -- it has no more actions in any time step
  pub fewer : (time : ℕ) → actions_in S time other ≤ actions_in S time order
  -- it can be completed to a permitted order that settles
  pub more : List Path
  pub permitted : Permits S (other ++ more)
  pub settles : Settles S (other ++ more)
  -- and where it settles itself, it gives the same run
  pub same : Settles S other → run_of S (replay S other) ≡ run_of S (replay S order)

-- CLEAN ORDERS: where one permitted order settles, every permitted order follows it
abbrev pub EveryOrder : Setting → Type 0
EveryOrder S = (order other : List Path) → Permits S order → Settles S order → Permits S other → FollowsOrder S order other

-- ANY CLEAN ORDER WILL DO: where some permitted order settles, the one-thread order is permitted and settles
abbrev pub AnyCleanOrder : Setting → Type 0
AnyCleanOrder S = (order : List Path) → Permits S order → Settles S order → Permits S (first_order S) × Settles S (first_order S)

-- an order has no more actions in any time step than their limit, at least 1, and none at or past the limit of time steps, at least 1
pub record WithinLimits (S : Setting) (order : List Path) : Type 0 where
  pub each : (time : ℕ) → actions_in S time order ≤ max 1 S.limits.step_actions
  pub none : (time : ℕ) → max 1 S.limits.time_steps ≤ time → actions_in S time order ≡ 0

-- EVERY PERMITTED ORDER is within the limits, with or without an outcome
abbrev pub OrdersWithin : Setting → Type 0
OrdersWithin S = (order : List Path) → Permits S order → WithinLimits S order

-- THE ONE-THREAD ORDER ENDS: it is permitted, has an outcome and so a result, and has no more acts than the bound
pub record FirstOrderEnds (S : Setting) : Type 0 where
  pub permitted : Permits S (first_order S)
  pub over : IsOver (replay S (first_order S))
  pub result : (r : Result) × (run_of S (replay S (first_order S)) ≡ Some r)
  pub short : length (first_order S) ≤ act_bound S
  pub within : WithinLimits S (first_order S)

-- what is said of the conflict of a run that stands at w
pub record RealConflict (S : Setting) (order : List Path) (w : World S.model.Inner) : Type 0 where
  -- the log of the time step, but for the newest event
  pub earlier : List Event
  pub first : Event
  pub second : Event
  pub log_is : w.log ≡ second ∷ earlier
  -- the run names both, with the time step
  pub named : run_of S (replay S order) ≡ Some (world_result w (conflict w.time first second))
  -- they stand in the log, neither is before the other, and they clash; no earlier event conflicts with another, and the first
  -- is the earliest that the second conflicts with
  pub spot : ℕ
  pub stands : HasAt w.log spot first
  pub pair : IsFirstPair S.model.cone w.log spot (length earlier)
  pub free : IsFree S.model.cone earlier

-- REAL CONFLICTS: where a permitted order meets a conflict, the pair is real, and no permitted order settles
abbrev pub RealConflicts : Setting → Type 0
RealConflicts S = (order : List Path) → Permits S order → (times : List ℕ) (w : World S.model.Inner) → replay S order ≡ conflicted times w →
    RealConflict S order w × ((other : List Path) → Permits S other → Settles S other → ⊥)

-- THE LOG IS FORMED: in each world that a permitted order reaches, and after the act of each enabled thread there
abbrev pub LogsFormed : Setting → Type 0
LogsFormed S = (order : List Path) → Permits S order → (times : List ℕ) (w : World S.model.Inner) → replay S order ≡ going times w →
    Formed w.log × ((p : Path) → Enabled w p → Formed (act S.model w p).log)
