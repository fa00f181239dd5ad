use Rattle.std.proofs.Common.{◌∙◌}
use Rattle.bench_setting.specs.Limited.{limits_told}
use Rattle.bench_course.specs.Taking.{taken}
use Rattle.bench_core.proofs.Rooms.{same_judged, same_outcome}
use Rattle.bench_core.proofs.commit.act.Goals as goal

pub returns-clause-course : goal.returns-clause-course
returns-clause-course g c =
    same_judged (limits_told c.args.limits.now) (taken c.args.course.now c.args.work) c.take.new.self c.judge.new.course c.take.ensures.course c.judge.ensures.course

pub returns-clause-outcome : goal.returns-clause-outcome
returns-clause-outcome g c =
    c.judge.ensures.outcome ∙ same_outcome (limits_told c.args.limits.now) (taken c.args.course.now c.args.work) c.take.new.self c.take.ensures.course
