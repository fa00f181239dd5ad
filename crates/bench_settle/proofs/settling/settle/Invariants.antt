use Rattle.std.proofs.Common.{◌-◌, max}
use Rattle.bench_setting.specs.Limited.{limits_told}
use Rattle.bench_settle.proofs.Steps.{Settles}
use Rattle.bench_settle.proofs.settling.settle.Given as goal

abbrev pub invariant-steps : goal.invariant-steps
invariant-steps g l = Settles (limits_told l.limits) l.fn.course l.course

abbrev pub decreases-steps : goal.decreases-steps
decreases-steps g l = max 1 l.limits.time_steps - l.course.time
