use Rattle.std.proofs.Common.{◌≡◌, map, take}
use Rattle.fir_check.specs.Scopes.{ports_type}
use Rattle.fir_check.proofs.instance_types.instance_types.Given as goal

abbrev pub invariant-loop-home : goal.invariant-loop-home
invariant-loop-home l = l.types.items ≡ map ports_type (take l.home-index l.modules)
