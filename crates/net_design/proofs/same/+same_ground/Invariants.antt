use Rattle.std.proofs.Common.{◌-◌, length}
use Rattle.net_design.proofs.Pairs.{SoFar}
use Rattle.net_design.proofs.same.+same_ground.Given as goal

abbrev pub invariant-same_body-loop-k : goal.invariant-same_body-loop-k
invariant-same_body-loop-k l = SoFar l.these l.others l.k

abbrev pub decreases-same_body-loop-k : goal.decreases-same_body-loop-k
decreases-same_body-loop-k l = length l.these - l.k
