use Rattle.std.proofs.Common.{◌≡◌, ◌++◌}
use Rattle.fir_flat.specs.Elaboration.{declare_all}
use Rattle.fir_flat.proofs.statements.put_declarations.Given as goal

abbrev pub invariant-loop-k : goal.invariant-loop-k
invariant-loop-k l = l.out.items ≡ l.fn.out.items ++ declare_all l.line l.first l.k
