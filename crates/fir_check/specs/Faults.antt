-- What a refusal tells of the circuit.
use Rattle.std.specs.Prelude.{ℕ, ◌≡◌, Option, Some}
use Rattle.fir_check.specs.declared.best.Rule.{Rule}
use Rattle.fir_check.specs.declared.best.Rule.TheVariants as rule
use Rattle.fir_check.specs.declared.accept.CheckFault.{CheckFault}
use Rattle.fir_check.specs.declared.accept.CheckFault.TheVariants.{NoMain, DoubleName, UnknownName, WrongKind, WrongFlow, ClockUse, InstanceCycle, Memory}

-- the rule that is broken, and the line; a lack of memory tells nothing
abbrev pub Tells : Option (Rule × ℕ) → CheckFault → Type 0
Tells o (NoMain line) = o ≡ Some (rule.NoMain, line)
Tells o (DoubleName line) = o ≡ Some (rule.DoubleName, line)
Tells o (UnknownName line) = o ≡ Some (rule.UnknownName, line)
Tells o (WrongKind line) = o ≡ Some (rule.WrongKind, line)
Tells o (WrongFlow line) = o ≡ Some (rule.WrongFlow, line)
Tells o (ClockUse line) = o ≡ Some (rule.ClockUse, line)
Tells o (InstanceCycle line) = o ≡ Some (rule.InstanceCycle, line)
Tells o (Memory m) = Unit {0}
