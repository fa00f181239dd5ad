use Rattle.std.proofs.Common.{◌≡◌, map, take}
use Rattle.fir_check.specs.Driven.{all_seen, clock_inputs}
use Rattle.fir_check.proofs.clock_inputs.clock_inputs.Given as goal

abbrev pub invariant-loop-home : goal.invariant-loop-home
invariant-loop-home l = all_seen l.all.items ≡ map clock_inputs (take l.home-index l.modules)
