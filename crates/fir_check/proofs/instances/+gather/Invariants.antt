use Rattle.fir_check.proofs.Gathered.{StmtsLeft}
use Rattle.fir_check.proofs.instances.+gather.Given as goal

abbrev pub invariant-gather_all-loop-stmt : goal.invariant-gather_all-loop-stmt
invariant-gather_all-loop-stmt l = StmtsLeft l.table l.body l.stmt-index l.found.items l.initial.found.items
