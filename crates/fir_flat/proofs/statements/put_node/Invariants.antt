use Rattle.std.proofs.Common.{◌≡◌, ◌++◌}
use Rattle.fir_flat.specs.Values.{Value}
use Rattle.fir_flat.specs.Resolving.{Resolves}
use Rattle.fir_flat.specs.Statements.{node_grounds}
use Rattle.fir_flat.proofs.statements.put_node.Given as goal

abbrev pub invariant-loop-k : goal.invariant-loop-k
invariant-loop-k l = (v : Value) → Resolves v l.value → l.out.items ≡ l.fn.out.items ++ node_grounds l.line l.first v l.k
