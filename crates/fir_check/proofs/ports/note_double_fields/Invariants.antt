use Rattle.fir_check.specs.declared.best.Rule.TheVariants.{DoubleName}
use Rattle.fir_check.specs.Types.{repeats_field}
use Rattle.fir_check.proofs.Lines.{PortsLeft}
use Rattle.fir_check.proofs.ports.note_double_fields.Given as goal

abbrev pub invariant-loop-port : goal.invariant-loop-port
invariant-loop-port l = PortsLeft DoubleName (λ p. repeats_field p.ty) l.ports l.port-index l.best l.initial.best
