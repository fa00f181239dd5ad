use Rattle.std.proofs.Common.{◌≡◌, drop}
use Rattle.fir_check.specs.Instances.{rises_nowhere}
use Rattle.fir_check.proofs.heights.rises_nowhere.Given as goal

abbrev pub invariant-loop-instance : goal.invariant-loop-instance
invariant-loop-instance l = rises_nowhere l.heights l.home (drop l.instance-index l.instances) ≡ rises_nowhere l.heights l.home l.instances
