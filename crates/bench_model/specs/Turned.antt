-- The definitions turned, one at a time: what each would give in place of the right one.
use Rattle.std.specs.Prelude.{ℕ, List, [], ◌∷◌, Bool, true, false, cond, not, ◌&&◌, ◌||◌, nat_lt, nat_eq, length, slice_index, Option, Some, None}
use Rattle.std.specs.List.{list_any}
use Rattle.std.specs.FinMap as map
use Rattle.order_laws.specs.System.{after}
use Rattle.order_laws.specs.Runs.{Steps, Run, going, conflicted, runs}
use Rattle.bench_model.specs.Paths.{Path, is_path}
use Rattle.bench_model.specs.Log.{Event, is_fork_of, is_end, names_joined, clash, conflicts}
use Rattle.bench_model.specs.World.{Model, Move, Thread, World, act_of, answer, event_of, self_after, newborn, wakes, write, wake, birth, is_there, worlds}
use Rattle.bench_model.specs.World.Move.{poke}
use Rattle.bench_model.specs.Settle.{Setting, Finish, FinishAlike, quiet, is_running, fails_now, settle}
use Rattle.bench_model.specs.Orders.{Result, Outcome, start, is_enabled, run_of}

-- WHAT MAY BE TURNED: a join waits for a child that has ended too; a failure ends the run at once; another test for conflicts
pub record Turn (S : Setting) : Type 0 where
  pub joins_wait : Bool
  pub fails_at_once : Bool
  pub conflict : (inputs : List ℕ) → List Event → Path → Thread S.model.Inner → Bool

-- nothing is turned
abbrev pub upright : (S : Setting) → Turn S
upright S = record { joins_wait = false; fails_at_once = false; conflict = λ ins log p t. conflicts S.model.cone log (event_of p t (S.model.next t.inner)) }

-- the world after an act, so turned
abbrev pub turned_act_of : (S : Setting) → Turn S → World S.model.Inner → Path → Option (Thread S.model.Inner) → World S.model.Inner
turned_act_of S T w p None = w
turned_act_of S T w p (Some t) =
    let m = S.model.next t.inner in
    record (act_of S.model w p (Some t)) {
      threads = write (birth (wake w.threads (wakes p m)) (newborn p t m)) p (self_after t m (answer S.model w.inputs w.registers m) (cond T.joins_wait true (is_there w.threads p m)));
    }

-- nobody may act, so turned
abbrev pub turned_quiet : (S : Setting) → Turn S → World S.model.Inner → Bool
turned_quiet S T w = cond T.fails_at_once (quiet w || list_any (fails_now w.time) w.records) (quiet w)

-- the next event meets a conflict, so turned
abbrev pub turned_conflict : (S : Setting) → Turn S → World S.model.Inner → Path → Option (Thread S.model.Inner) → Bool
turned_conflict S T w p None = false
turned_conflict S T w p (Some t) = T.conflict w.inputs w.log p t

-- the runs of a setting, so turned
abbrev pub turned_steps : (S : Setting) → Turn S → Steps
turned_steps S T = record {
  world = record {
    State = World S.model.Inner;
    Actor = Path;
    Alike = (worlds S.model).Alike;
    Possible = (worlds S.model).Possible;
    Enabled = (worlds S.model).Enabled;
    Clean = (worlds S.model).Clean;
    act = λ w p. turned_act_of S T w p (map.get w.threads p);
  };
  Finish = Finish;
  FinishAlike = FinishAlike;
  quiet = λ w. turned_quiet S T w;
  conflict = λ w p. turned_conflict S T w p (map.get w.threads p);
  size = λ w. length w.log;
  time = λ w. w.time;
  bound = S.limits.step_actions;
  settle = λ w. settle S w;
}

-- what an order gives, so turned
abbrev pub turned_by : (S : Setting) → Turn S → List Path → Option Result
turned_by S T order = run_of S (after (runs (turned_steps S T)) (start S) order)

-- the outcome of what a run gives
abbrev pub outcome_of : Option Result → Option Outcome
outcome_of None = None
outcome_of (Some r) = Some r.outcome

-- an order meets a conflict, so turned
abbrev pub is_conflicted : {W E : Type 0} → Run W E → Bool
is_conflicted (conflicted times w) = true
is_conflicted _ = false

-- an order meets a conflict, so turned
abbrev pub turned_conflicts : (S : Setting) → Turn S → List Path → Bool
turned_conflicts S T order = is_conflicted (after (runs (turned_steps S T)) (start S) order)

-- ---- links that are dropped

-- each of the four links is there or not
abbrev pub link_by : (thread fork join region : Bool) → Event → Event → Bool
link_by thread fork join region d e =
    (thread && is_path d.path e.path) || ((fork && is_fork_of d.kind e.path) || ((join && (is_end d.kind && names_joined e.joined d.path)) || (region && nat_lt d.region e.region)))

-- the event leads to one of these, by other links
abbrev pub leads_by : (Event → Event → Bool) → Event → List Event → Bool
leads_by linked d [] = false
leads_by linked d (x ∷ past) = linked d x || leads_by linked d past

-- whether an event that does not lead to e clashes with it, by other links
abbrev pub scan_by : (Event → Event → Bool) → (cone : ℕ → ℕ → Bool) → Event → List Event → List Event → Bool
scan_by linked cone e [] past = false
scan_by linked cone e (d ∷ log) past = elim (leads_by linked d past) [ true ↦ scan_by linked cone e log (d ∷ past) | false ↦ clash cone d.kind e.kind || scan_by linked cone e log past ]

-- some of the links are dropped
abbrev pub with_links : (S : Setting) → (thread fork join region : Bool) → Turn S
with_links S thread fork join region =
    record (upright S) { conflict = λ ins log p t. (let e = event_of p t (S.model.next t.inner) in scan_by (link_by thread fork join region) S.model.cone e log (e ∷ [])) }

-- ---- values that count

-- the next action pokes the number that the input holds already
abbrev pub pokes_the_same : (M : Model) → List ℕ → Move M.Inner → Bool
pokes_the_same M ins (poke l p v i) = nat_eq (slice_index ins p) (M.fitted p v)
pokes_the_same M ins _ = false

-- a poke of an equal number is no conflict
abbrev pub values_count : (S : Setting) → Turn S
values_count S = record (upright S) { conflict = λ ins log p t. conflicts S.model.cone log (event_of p t (S.model.next t.inner)) && not (pokes_the_same S.model ins (S.model.next t.inner)) }

-- ---- joins and failures

-- a join waits also where the child has ended
abbrev pub joins_always_wait : (S : Setting) → Turn S
joins_always_wait S = record (upright S) { joins_wait = true }

-- a failure ends the run at once
abbrev pub failures_end : (S : Setting) → Turn S
failures_end S = record (upright S) { fails_at_once = true }

-- ---- the edge before the samples
abbrev pub late_samples : Setting → Setting
late_samples S = record S { sample = λ ins regs. S.sample ins (S.edge ins regs) }

-- ---- who may act

-- the thread p is enabled where the run stands
abbrev pub enabled_in : {I : Type 0} → Run (World I) Finish → Path → Bool
enabled_in (going times w) p = is_enabled w (map.get w.threads p)
enabled_in _ p = false

-- the thread p is running there, whatever others do
abbrev pub runs_by : {I : Type 0} → Option (Thread I) → Bool
runs_by None = false
runs_by (Some t) = is_running t.mode

-- the thread p is running where the run stands
abbrev pub running_in : {I : Type 0} → Run (World I) Finish → Path → Bool
running_in (going times w) p = runs_by (map.get w.threads p)
running_in _ p = false
