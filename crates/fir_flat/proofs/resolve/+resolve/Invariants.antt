use Rattle.std.proofs.Common.{◌-◌, length, take, map}
use Rattle.fir_flat.specs.Values.{value}
use Rattle.fir_flat.specs.Kinds.{seen}
use Rattle.fir_flat.specs.Resolving.{Given}
use Rattle.fir_flat.proofs.resolve.+resolve.Given as goal

abbrev pub invariant-resolve_operands-loop-k : goal.invariant-resolve_operands-loop-k
invariant-resolve_operands-loop-k l = Given (take l.k (map (value (seen l.known)) l.args)) l.operands

abbrev pub decreases-resolve_operands-loop-k : goal.decreases-resolve_operands-loop-k
decreases-resolve_operands-loop-k l = length l.args - l.k
