use Rattle.std.proofs.Common.{◌-◌, vec_len}
use Rattle.std.specs.List.{All}
use Rattle.bench_course.specs.Samples.{IsSpare}
use Rattle.bench_course.proofs.samples.add_spares.Given as goal

abbrev pub invariant-fill : goal.invariant-fill
invariant-fill l = All (IsSpare l.width) l.spare.items

abbrev pub decreases-fill : goal.decreases-fill
decreases-fill l = l.count - vec_len l.spare
