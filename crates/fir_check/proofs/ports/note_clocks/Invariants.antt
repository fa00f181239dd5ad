use Rattle.fir_check.specs.declared.best.Rule.TheVariants.{ClockUse}
use Rattle.fir_check.specs.Rules.{misplaces_clock}
use Rattle.fir_check.proofs.Lines.{PortsLeft}
use Rattle.fir_check.proofs.ports.note_clocks.Given as goal

abbrev pub invariant-loop-port : goal.invariant-loop-port
invariant-loop-port l = PortsLeft ClockUse misplaces_clock l.ports l.port-index l.best l.initial.best
