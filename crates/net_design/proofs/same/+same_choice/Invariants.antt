use Rattle.std.proofs.Common.{◌-◌, length}
use Rattle.net_design.proofs.Pairs.{SoFar}
use Rattle.net_design.proofs.same.+same_choice.Given as goal

abbrev pub invariant-same_choices-loop-k : goal.invariant-same_choices-loop-k
invariant-same_choices-loop-k l = SoFar l.these l.others l.k

abbrev pub decreases-same_choices-loop-k : goal.decreases-same_choices-loop-k
decreases-same_choices-loop-k l = length l.these - l.k
