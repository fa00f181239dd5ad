use Rattle.tl_code.proofs.Alike.{SoFarAt}
use Rattle.tl_code.proofs.same.same_ports.Given as goal

abbrev pub invariant-loop-k : goal.invariant-loop-k
invariant-loop-k l = SoFarAt l.these l.others l.k
