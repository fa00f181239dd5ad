use Rattle.std.proofs.Common.{◌-◌, length, take, map}
use Rattle.fir_flat.specs.Kinds.{Gathers, seen}
use Rattle.fir_flat.specs.Measures.{measure}
use Rattle.fir_flat.proofs.weights.+weigh.Given as goal

abbrev pub invariant-weigh_operands-loop-k : goal.invariant-weigh_operands-loop-k
invariant-weigh_operands-loop-k l = Gathers (take l.k (map (measure (seen l.known)) l.args)) l.operands

abbrev pub decreases-weigh_operands-loop-k : goal.decreases-weigh_operands-loop-k
decreases-weigh_operands-loop-k l = length l.args - l.k
