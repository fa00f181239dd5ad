use Rattle.fir_check.proofs.Pairs.{SinksLeft}
use Rattle.fir_check.proofs.sinks.+gather.Given as goal

abbrev pub invariant-gather_all-loop-stmt : goal.invariant-gather_all-loop-stmt
invariant-gather_all-loop-stmt l = SinksLeft l.body l.stmt-index l.sinks l.initial.sinks
