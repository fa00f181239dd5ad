-- The laws: a circuit that breaks no rule, that a text can write, and whose elaboration is within the limits.
use Rattle.std.specs.Prelude.{◌≡◌, None}
use Rattle.fir_ast.specs.declared.tree.Circuit.{Circuit}
use Rattle.net_core.specs.Formed.{Formed}
use Rattle.fir_check.specs.Rules.{circuit_rule}
use Rattle.fir_flat.specs.Elaboration.{elab}
use Rattle.fir_flat.specs.Limits.{Fits}
use Rattle.fir_written.specs.Written.{IsWritten}
use Rattle.fir_formed.specs.Typed.{Typed}

abbrev pub ElaborationsAreTyped : Type 0
ElaborationsAreTyped = (c : Circuit) → circuit_rule c ≡ None → IsWritten c → Fits c → Typed (elab c)

abbrev pub ElaborationsAreFormed : Type 0
ElaborationsAreFormed = (c : Circuit) → circuit_rule c ≡ None → IsWritten c → Fits c → Formed (elab c)
