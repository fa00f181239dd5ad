use Rattle.std.proofs.Common.{◌≡◌, drop}
use Rattle.fir_check.specs.Instances.{spread}
use Rattle.fir_check.proofs.ways.visit_all.Given as goal

abbrev pub invariant-loop-instance : goal.invariant-loop-instance
invariant-loop-instance l = spread (drop l.instance-index l.instances) (l.marks, l.found.items) ≡ spread l.instances (l.initial.marks, l.initial.found.items)
