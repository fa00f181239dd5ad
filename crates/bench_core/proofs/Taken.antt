-- The bench when an act was taken and judged.
use Rattle.std.proofs.Common.{◌≡◌, List, [], ◌∷◌, ◌++◌, true, Option, option_map, refl, sym, ap, subst, ◌∙◌}
use Rattle.net_core.specs.declared.tree.Elab.{Elab}
use Rattle.net_core.specs.declared.tree.Net.{Net}
use Rattle.net_design.specs.Designs.{Runs, ports_of}
use Rattle.order_laws.specs.Runs.{going, runs, run_act, RunEnabled}
use Rattle.order_laws.proofs.Theorem.{after_append, permitted_append}
use Rattle.tl_threads.specs.Threads.{Inner}
use Rattle.tl_code.specs.Compiled.{Compiled}
use Rattle.tl_prepare.specs.Work.{Work}
use Rattle.tl_prepare.specs.Given.{IsPrepared}
use Rattle.bench_model.specs.Paths.{Path}
use Rattle.bench_model.specs.World.{World, Enabled}
use Rattle.bench_model.specs.Settle.{steps}
use Rattle.bench_model.specs.Orders.{RunOf, Result, RealConflicts, Permits, start, replay, run_of}
use Rattle.bench_setting.specs.declared.limits.Limits.{Limits}
use Rattle.bench_setting.specs.Limited.{limits_told}
use Rattle.bench_setting.specs.Settings.{AtEachTest, setting_of}
use Rattle.bench_run.specs.declared.outcome.Outcome.{Outcome}
use Rattle.bench_run.specs.Told.{outcome_told}
use Rattle.bench_threads.specs.Shelves.{Threads}
use Rattle.bench_threads.specs.Threads.{change, with_mark, unmarked}
use Rattle.bench_stands.specs.Laws.{EnabledIsTold}
use Rattle.bench_course.specs.Course.{CourseValue}
use Rattle.bench_course.specs.Taking.{taken}
use Rattle.bench_course.specs.Laws.{CourseStands, MarksAndRoomUnseen}
use Rattle.bench_judge.specs.Judging.{judged}
use Rattle.bench_judge.specs.Laws.{RunStands, JudgedAs, JudgingIsTold}
use Rattle.bench_core.specs.Bench.{BenchValue, IsBench, EqualButRoom, setting_in, run_in}
use Rattle.bench_core.specs.Committing.{Fresh, HasTaken, MayGoOn, Acted}
use Rattle.bench_core.specs.Laws.{StaysBench, MarksLeaveBenches, FreshMayGoOn, CommitsLeaveBenches}
use Rattle.bench_core.proofs.Going.{GoesOn, goes_on, run_stands, roomed}
use Rattle.bench_core.proofs.GoingOn.{may_take, may_act}
use Rattle.bench_core.proofs.Marks.{mark_at, Leaves, judged_leaves, taken_mark}

-- ---- benches over a circuit

-- what a bench has of its run, over a circuit
pub record HasRun (e : Elab) (l : Limits) (c : Compiled) (o : CourseValue) (order : List Path) (outcome : Option Outcome) : Type 0 where
  pub permitted : Permits (setting_of e c.test (limits_told l)) order
  pub stands : RunStands c o (replay (setting_of e c.test (limits_told l)) order)
  pub ends : option_map outcome_told outcome ≡ option_map (λ (r : Result). r.outcome) (run_of (setting_of e c.test (limits_told l)) (replay (setting_of e c.test (limits_told l)) order))

-- a bench with the parts of another but for the course, the order and the outcome
module _ (b n : BenchValue) (is : IsBench b) (limits : n.limits ≡ b.limits) (code : n.code ≡ b.code) (elab : n.course.elab ≡ b.course.elab) (net : n.course.net ≡ b.course.net) where
  -- the new one, with the old code and limits
  mixed : BenchValue
  mixed = record { limits = b.limits; code = b.code; course = n.course; order = n.order; outcome = n.outcome }

  same_mixed : n ≡ mixed
  unfolding mixed
  same_mixed = ap (λ (x : Limits). record n { limits = x }) limits ∙ ap (λ (x : Compiled). record n { limits = b.limits; code = x }) code

  pub bench_again : HasRun b.course.elab b.limits b.code n.course n.order n.outcome → IsBench n
  unfolding mixed
  bench_again has =
      let run : HasRun n.course.elab b.limits b.code n.course n.order n.outcome =
      subst (λ (e : Elab). HasRun e b.limits b.code n.course n.order n.outcome) (sym elab) has in
      subst (λ (x : BenchValue). IsBench x) (sym same_mixed)
      (record {
        runs =
            subst (λ (e : Elab). Runs e n.course.net) (sym elab) (subst (λ (x : Net). Runs b.course.elab x) (sym net) is.runs);
        code = is.code;
        ports = is.ports ∙ ap ports_of (sym elab);
        step_actions = is.step_actions;
        run_actions = is.run_actions;
        permitted = run.permitted;
        stands = run.stands;
        ends = run.ends;
      })

-- ---- a commit

module _ (judging : JudgingIsTold) (unseen : MarksAndRoomUnseen) (b : BenchValue) (work : Work) (n : BenchValue) (is : IsBench b) (g : GoesOn b)
    (prepared : IsPrepared work) (fresh : Fresh b work) (acted : Acted b work n) (enabled : Enabled g.world work.from.path) where
  -- where the run stands behind the act
  abbrev pub behind : RunOf (setting_in b)
  behind = run_act (steps (setting_in b)) (going g.times g.world) work.from.path

  told : JudgedAs b.code.test (limits_told b.limits) b.code (judged (limits_told b.limits) (taken b.course work)) behind
  told = judging b.code.test (limits_told b.limits) b.code b.course g.times g.world work fresh.entry g.stands (may_take b is g work prepared fresh)

  replayed : replay (setting_in b) (b.order ++ work.from.path ∷ []) ≡ behind
  replayed =
      after_append (runs (steps (setting_in b))) b.order (work.from.path ∷ []) (start (setting_in b))
      ∙ ap (λ (r : RunOf (setting_in b)). run_act (steps (setting_in b)) r work.from.path) g.run

  allowed : Permits (setting_in b) (b.order ++ work.from.path ∷ [])
  allowed =
      permitted_append (runs (steps (setting_in b))) b.order (work.from.path ∷ []) (start (setting_in b)) is.permitted
      (subst (λ (r : RunOf (setting_in b)). RunEnabled (steps (setting_in b)) r work.from.path) (sym g.run) enabled, tt)

  kept : Leaves (taken b.course work) (judged (limits_told b.limits) (taken b.course work)).course
  kept = judged_leaves (limits_told b.limits) (taken b.course work)

  elab_kept : n.course.elab ≡ b.course.elab
  elab_kept = ap (λ (v : CourseValue). v.elab) acted.course ∙ kept.elab

  net_kept : n.course.net ≡ b.course.net
  net_kept = ap (λ (v : CourseValue). v.net) acted.course ∙ kept.net

  outcome_at : (judged (limits_told b.limits) (taken b.course work)).outcome ≡ option_map (λ (r : Result). r.outcome) (run_of (setting_in b) behind)
  outcome_at =
      subst (λ (e : Elab). (judged (limits_told b.limits) (taken b.course work)).outcome ≡ option_map (λ (r : Result). r.outcome) (run_of (setting_of e b.code.test (limits_told b.limits)) behind)) kept.elab
      told.outcome

  has_run : HasRun b.course.elab b.limits b.code n.course (b.order ++ work.from.path ∷ []) n.outcome
  has_run = record {
    permitted = allowed;
    stands =
        subst (λ (r : RunOf (setting_in b)). RunStands b.code n.course r) (sym replayed)
        (roomed unseen b.code (judged (limits_told b.limits) (taken b.course work)).course n.course behind acted.course told.stands);
    ends =
        acted.outcome ∙ outcome_at
        ∙ ap (λ (r : RunOf (setting_in b)). option_map (λ (x : Result). x.outcome) (run_of (setting_in b) r)) (sym replayed);
  }

  pub still_bench : IsBench n
  still_bench =
      bench_again b n is acted.limits acted.code elab_kept net_kept
      (subst (λ (order : List Path). HasRun b.course.elab b.limits b.code n.course order n.outcome) (sym acted.order) has_run)

  pub has_taken : MayGoOn (limits_told b.limits) b.course work → HasTaken b work n
  has_taken may = record {
    order = acted.order;
    marks = λ p.
        ap (λ (v : CourseValue). mark_at v.threads p) acted.course ∙ kept.marks p ∙ taken_mark b.course work prepared.next.path may.absent p;
    code = acted.code;
    limits = acted.limits;
    elab = elab_kept;
    net = net_kept;
  }

pub commits_leave_benches : AtEachTest RealConflicts → JudgingIsTold → MarksAndRoomUnseen → EnabledIsTold → FreshMayGoOn → CommitsLeaveBenches
commits_leave_benches real judging unseen enabled going_on b work n is prepared fresh acted =
    let g = goes_on real b is fresh.goes_on in
    let may = may_act b is g work prepared fresh enabled in
    (still_bench judging unseen b work n is g prepared fresh acted may, has_taken judging unseen b work n is g prepared fresh acted may (going_on b work is prepared fresh))

-- ---- marks and room

module _ (unseen : MarksAndRoomUnseen) (b : BenchValue) (is : IsBench b) where
  with_threads : (ts : Threads) → ((w : World Inner) → CourseStands b.code b.course w → CourseStands b.code (record b.course { threads = ts }) w)
      → IsBench (record b { course = record b.course { threads = ts } })
  with_threads ts f =
      bench_again b (record b { course = record b.course { threads = ts } }) is refl refl refl refl
      (record { permitted = is.permitted; stands = run_stands b.code b.course (record b.course { threads = ts }) (run_in b) f refl refl refl refl is.stands; ends = is.ends })

  with_room : (n : BenchValue) → EqualButRoom b n → IsBench n
  with_room n same =
      subst (λ (x : BenchValue). IsBench x) (sym same)
      (bench_again b (record b { course = record b.course { room = n.course.room } }) is refl refl refl refl
      (record { permitted = is.permitted; stands = roomed unseen b.code b.course (record b.course { room = n.course.room }) (run_in b) refl is.stands; ends = is.ends }))

  pub stays_bench : StaysBench b
  stays_bench = record {
    mark = λ p. with_threads (change (with_mark true) b.course.threads p) (λ w s. (unseen b.code b.course w s).mark true p);
    marks = with_threads (unmarked b.course.threads) (λ w s. (unseen b.code b.course w s).marks);
    room = with_room;
  }

pub marks_leave_benches : MarksAndRoomUnseen → MarksLeaveBenches
marks_leave_benches unseen b is = stays_bench unseen b is
