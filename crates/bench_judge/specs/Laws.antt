-- What is proved of judging an act.
use Rattle.std.specs.Prelude.{◌≡◌, ℕ, List, option_map}
use Rattle.tl_check.specs.Checked.{TestFor}
use Rattle.tl_threads.specs.Threads.{Inner}
use Rattle.tl_code.specs.Compiled.{Compiled}
use Rattle.tl_prepare.specs.Work.{Work}
use Rattle.order_laws.specs.Runs.{Run, going, settled, conflicted, bounded, run_act}
use Rattle.bench_model.specs.World.{World}
use Rattle.bench_model.specs.Settle.{Limits, Finish, steps}
use Rattle.bench_model.specs.Orders.{run_of}
use Rattle.bench_setting.specs.Settings.{setting_of}
use Rattle.bench_threads.specs.declared.entry.Entry.{Entry}
use Rattle.bench_course.specs.Course.{CourseValue}
use Rattle.bench_course.specs.Taking.{taken}
use Rattle.bench_course.specs.Laws.{CourseStands, FinishStands, MayTake}
use Rattle.bench_judge.specs.Judging.{Judged, judged}

-- A COURSE STANDS FOR WHERE A RUN STANDS
abbrev pub RunStands : Compiled → CourseValue → Run (World Inner) Finish → Type 0
RunStands c o (going times w) = CourseStands c o w
RunStands c o (settled times f) = FinishStands o f
RunStands c o (conflicted times w) = CourseStands c o w
RunStands c o (bounded times w) = CourseStands c o w

-- the course that was judged stands for where the run stands after the act, and its outcome is the run's
pub record JudgedAs (k : TestFor) (l : Limits) (c : Compiled) (j : Judged) (r : Run (World Inner) Finish) : Type 0 where
  pub stands : RunStands c j.course r
  pub outcome : j.outcome ≡ option_map (λ x. x.outcome) (run_of (setting_of j.course.elab k l) r)

-- JUDGING IS WHAT THE RUN OF THE MODEL DOES AFTER AN ACT: where a course stands for the world of a run that goes on, and takes what was prepared
-- from the state of a thread that is there
abbrev pub JudgingIsTold : Type 0
JudgingIsTold = (k : TestFor) (l : Limits) (c : Compiled) (o : CourseValue) (times : List ℕ) (w : World Inner) (work : Work) (entry : Entry)
    → CourseStands c o w → MayTake c o work entry
    → JudgedAs k l c (judged l (taken o work)) (run_act (steps (setting_of o.elab k l)) (going times w) work.from.path)
