use Rattle.std.proofs.Common.{◌≡◌, ◌-◌, drop, length, is_some}
use Rattle.fir_check.specs.Scopes.{module_named}
use Rattle.fir_check.proofs.main_module.is_module.Given as goal

abbrev pub invariant-loop-k : goal.invariant-loop-k
invariant-loop-k l = is_some (module_named l.name (drop l.k l.modules)) ≡ is_some (module_named l.name l.modules)

abbrev pub decreases-loop-k : goal.decreases-loop-k
decreases-loop-k l = length l.modules - l.k
