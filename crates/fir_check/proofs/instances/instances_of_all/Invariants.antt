use Rattle.std.proofs.Common.{◌≡◌, take}
use Rattle.fir_check.specs.Instances.{graph, kids_seen}
use Rattle.fir_check.proofs.instances.instances_of_all.Given as goal

abbrev pub invariant-loop-home : goal.invariant-loop-home
invariant-loop-home l = kids_seen l.kids.items ≡ graph l.table (take l.home-index l.modules)
