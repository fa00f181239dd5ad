-- Where the run of a bench stands.
use Rattle.std.proofs.Common.{◌≡◌, ℕ, ◌+◌, ◌≤◌, ◌<◌, max, List, length, map, Option, Some, None, option_map, refl, sym, ap, subst, ◌∙◌, arith}
use Rattle.order_laws.specs.Runs.{Run, going, settled, conflicted, bounded}
use Rattle.tl_threads.specs.Threads.{Inner}
use Rattle.tl_code.specs.Compiled.{Compiled}
use Rattle.bench_model.specs.Paths.{Path}
use Rattle.bench_model.specs.World.{World, Thread}
use Rattle.bench_model.specs.Settle.{Finish}
use Rattle.bench_model.specs.TwoMoves.{Reached}
use Rattle.bench_model.specs.Orders.{RunOf, Result, RealConflicts, run_of, least_of_run}
use Rattle.bench_setting.specs.Limited.{limits_told}
use Rattle.bench_setting.specs.Settings.{AtEachTest}
use Rattle.bench_reach.specs.Bounds.{Bounded, AtAnyTest, WorldsBounded}
use Rattle.bench_run.specs.declared.outcome.Outcome.{Outcome}
use Rattle.bench_run.specs.declared.observation.Observation.{Observation}
use Rattle.bench_run.specs.Told.{outcome_told, record_told}
use Rattle.bench_threads.specs.declared.entry.Entry.{Entry}
use Rattle.bench_stands.specs.Standing.{EntryStands, StandsAt}
use Rattle.bench_course.specs.Course.{CourseValue, SameButRoom}
use Rattle.bench_course.specs.Laws.{CourseStands, MarksAndRoomUnseen}
use Rattle.bench_judge.specs.Laws.{RunStands}
use Rattle.bench_core.specs.Bench.{BenchValue, IsBench, setting_in, run_in}

-- the run goes on, in this world
pub record GoesOn (b : BenchValue) : Type 0 where
  pub times : List ℕ
  pub world : World Inner
  pub run : run_in b ≡ going times world
  pub stands : CourseStands b.code b.course world

no_result : (o : Option Outcome) (r : Option Result) → o ≡ None → option_map outcome_told o ≡ option_map (λ (x : Result). x.outcome) r → r ≡ None
no_result None None h e = refl
no_result None (Some x) h e = absurd (cc)
no_result (Some x) r h e = absurd (cc)

-- WHERE THERE IS NO OUTCOME, THE RUN GOES ON
module _ (real : AtEachTest RealConflicts) (b : BenchValue) (is : IsBench b) (none : b.outcome ≡ None) where
  without : run_of (setting_in b) (run_in b) ≡ None
  without = no_result b.outcome (run_of (setting_in b) (run_in b)) none is.ends

  goes_at : (r : RunOf (setting_in b)) → run_in b ≡ r → GoesOn b
  goes_at (going t w) e = record { times = t; world = w; run = e; stands = subst (λ (r : RunOf (setting_in b)). RunStands b.code b.course r) e is.stands }
  goes_at (settled t f) e = let x : run_of (setting_in b) (settled t f) ≡ None = subst (λ (r : RunOf (setting_in b)). run_of (setting_in b) r ≡ None) e without in absurd (cc)
  goes_at (conflicted t w) e =
      let named = (real b.course.elab b.course.net b.code.test (limits_told b.limits) is.runs is.code.rule b.order is.permitted t w e).0.named in
      let x = sym named ∙ without in
      absurd (cc)
  goes_at (bounded t w) e = let x : run_of (setting_in b) (bounded t w) ≡ None = subst (λ (r : RunOf (setting_in b)). run_of (setting_in b) r ≡ None) e without in absurd (cc)

  pub goes_on : GoesOn b
  goes_on = goes_at (run_in b) refl

-- WHERE THERE IS ONE, nobody acts
pub nobody_acts : (b : BenchValue) → IsBench b → (o : Outcome) → b.outcome ≡ Some o → (r : RunOf (setting_in b)) → run_in b ≡ r → least_of_run r ≡ None
nobody_acts b is o h (going t w) e =
    let x : Some (outcome_told o) ≡ None =
    ap (option_map outcome_told) (sym h) ∙ is.ends ∙ ap (λ (r : RunOf (setting_in b)). option_map (λ (x : Result). x.outcome) (run_of (setting_in b) r)) e in
    absurd (cc)
nobody_acts b is o h (settled t f) e = refl
nobody_acts b is o h (conflicted t w) e = refl
nobody_acts b is o h (bounded t w) e = refl

-- ---- the world of a run that goes on

module _ (b : BenchValue) (is : IsBench b) (g : GoesOn b) where
  pub reached : Reached (setting_in b) g.world
  reached = (b.order, g.times, is.permitted, g.run)

  module _ (bounds : AtAnyTest WorldsBounded) where
    pub world_bounded : Bounded (setting_in b) g.world
    world_bounded = bounds b.course.elab b.code.test (limits_told b.limits) g.world reached

    -- there is room in the time step for one act more
    pub step_room : length g.world.log ≤ 2147483646
    step_room = let r : length g.world.log < max 1 b.limits.step_actions = world_bounded.room in let s : b.limits.step_actions < 2147483648 = is.step_actions in omega arith

    -- and in all numbers of acts
    pub run_room : g.world.actions ≤ 4294967293
    run_room =
        let a : g.world.actions ≤ b.limits.run_actions + length g.world.log = world_bounded.actions in
        let s : b.limits.run_actions < 2147483648 = is.run_actions in
        let r = step_room in
        omega arith

-- ---- threads

-- the thread for which an entry stands
pub thread_at : (c : Compiled) (p : Path) (a : Option Entry) (e : Entry) (v : Option (Thread Inner)) → a ≡ Some e → StandsAt c p a v
    → (t : Thread Inner) × (v ≡ Some t) × EntryStands c p e t
thread_at c p a e None here is = absurd (subst (λ (x : Option Entry). StandsAt c p x None) here is)
thread_at c p a e (Some t) here is = (t, refl, subst (λ (x : Option Entry). StandsAt c p x (Some t)) here is)

-- ---- marks and room

-- a course stands for where a run stands whatever changes, where it does so for worlds and keeps what a run gives
pub run_stands : (c : Compiled) (o n : CourseValue) (r : Run (World Inner) Finish) → ((w : World Inner) → CourseStands c o w → CourseStands c n w)
    → n.observations ≡ o.observations → n.samples ≡ o.samples → n.time ≡ o.time → n.actions ≡ o.actions → RunStands c o r → RunStands c n r
run_stands c o n (going t w) f eo es et ea is = f w is
run_stands c o n (conflicted t w) f eo es et ea is = f w is
run_stands c o n (bounded t w) f eo es et ea is = f w is
run_stands c o n (settled t x) f eo es et ea is = record {
  records = ap (λ (xs : List Observation). map record_told xs) eo ∙ is.records;
  samples = es ∙ is.samples;
  time = et ∙ is.time;
  actions = ea ∙ is.actions;
}

-- with another room
pub roomed : MarksAndRoomUnseen → (c : Compiled) (o n : CourseValue) (r : Run (World Inner) Finish) → SameButRoom o n → RunStands c o r → RunStands c n r
roomed unseen c o n r same is =
    run_stands c o n r (λ w s. (unseen c o w s).room n same)
    (ap (λ (v : CourseValue). v.observations) same) (ap (λ (v : CourseValue). v.samples) same) (ap (λ (v : CourseValue). v.time) same) (ap (λ (v : CourseValue). v.actions) same) is
