use Rattle.std.proofs.Common.{◌-◌, length}
use Rattle.net_design.proofs.Pairs.{SoFar}
use Rattle.net_design.proofs.same.+same_expr.Given as goal

abbrev pub invariant-same_exprs-loop-k : goal.invariant-same_exprs-loop-k
invariant-same_exprs-loop-k l = SoFar l.these l.others l.k

abbrev pub decreases-same_exprs-loop-k : goal.decreases-same_exprs-loop-k
decreases-same_exprs-loop-k l = length l.these - l.k
