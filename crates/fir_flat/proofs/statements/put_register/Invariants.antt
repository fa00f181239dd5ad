use Rattle.std.proofs.Common.{◌≡◌, ◌++◌, List, Option, map}
use Rattle.std.specs.List.{range_with_len}
use Rattle.fir_ast.specs.declared.tree.ResetPair.{ResetPair}
use Rattle.fir_flat.specs.Shapes.{Shape}
use Rattle.fir_flat.specs.Values.{Bound}
use Rattle.fir_flat.specs.Elaboration.{reg_part}
use Rattle.fir_flat.specs.Statements.{IsReset}
use Rattle.fir_flat.proofs.statements.put_register.Given as goal

abbrev pub invariant-loop-k : goal.invariant-loop-k
invariant-loop-k l =
    (known : List Bound) (t : Shape) (written : Option ResetPair) → IsReset known t written l.reset
    → l.out.items ≡ l.fn.out.items ++ map (reg_part l.line l.first known t written) (range_with_len 0 l.k)
