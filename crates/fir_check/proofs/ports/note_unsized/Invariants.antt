use Rattle.fir_check.specs.declared.best.Rule.TheVariants.{WrongKind}
use Rattle.fir_check.specs.Rules.{has_unsized_input}
use Rattle.fir_check.proofs.Lines.{PortsLeft}
use Rattle.fir_check.proofs.ports.note_unsized.Given as goal

abbrev pub invariant-loop-port : goal.invariant-loop-port
invariant-loop-port l = PortsLeft WrongKind has_unsized_input l.ports l.port-index l.best l.initial.best
