use Rattle.bench_setting.specs.Limited.{limits_told}
use Rattle.bench_course.proofs.Parts.{ended_parts}
use Rattle.bench_course.proofs.course.Course.end_step.Goals as goal

pub returns-in-None-clause-course : goal.returns-in-None-clause-course
returns-in-None-clause-course g c =
    ended_parts (limits_told c.args.limits.now) c.args.self.now c.sample.new.self c.step.new.self c.sample.ensures.course c.step.ensures.course c.in-None.ensures
