use Rattle.std.proofs.Common.{◌-◌, length}
use Rattle.net_design.proofs.Pairs.{SoFar}
use Rattle.net_design.proofs.same.same_equations.Given as goal

abbrev pub invariant-loop-k : goal.invariant-loop-k
invariant-loop-k l = SoFar l.these l.others l.k

abbrev pub decreases-loop-k : goal.decreases-loop-k
decreases-loop-k l = length l.these - l.k
