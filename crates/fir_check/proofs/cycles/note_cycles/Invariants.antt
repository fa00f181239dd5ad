use Rattle.fir_check.proofs.CycleLoops.{CyclesLeft}
use Rattle.fir_check.proofs.cycles.note_cycles.Given as goal

abbrev pub invariant-loop-k : goal.invariant-loop-k
invariant-loop-k l = CyclesLeft l.modules l.k l.best l.initial.best
