use Rattle.fir_check.proofs.Lines.{NamesLeft}
use Rattle.fir_check.proofs.ports.note_double_ports.Given as goal

abbrev pub invariant-loop-k : goal.invariant-loop-k
invariant-loop-k l = NamesLeft l.ports l.k l.table l.best l.initial.best
