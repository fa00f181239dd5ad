use Rattle.fir_check.proofs.Lines.{ClocksLeft}
use Rattle.fir_check.proofs.ports.note_second_clocks.Given as goal

abbrev pub invariant-loop-port : goal.invariant-loop-port
invariant-loop-port l = ClocksLeft l.ports l.port-index l.seen l.best l.initial.best
