use Rattle.std.proofs.Common.{length, ◌-◌, take}
use Rattle.fir_check.specs.KnownSeen.{seen}
use Rattle.fir_check.specs.Judging.{Gathers}
use Rattle.fir_check.proofs.exprs.+judge.Given as goal

abbrev pub invariant-judge_operands-loop-k : goal.invariant-judge_operands-loop-k
invariant-judge_operands-loop-k l = Gathers l.types (seen l.types l.scope) l.wrong (take l.k l.args) l.operands

abbrev pub decreases-judge_operands-loop-k : goal.decreases-judge_operands-loop-k
decreases-judge_operands-loop-k l = length l.args - l.k
