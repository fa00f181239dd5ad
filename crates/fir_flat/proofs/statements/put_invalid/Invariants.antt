use Rattle.std.proofs.Common.{◌≡◌, ◌++◌, ◌-◌, length, drop}
use Rattle.fir_flat.specs.Shapes.{leaves}
use Rattle.fir_flat.specs.Values.{Value}
use Rattle.fir_flat.specs.Elaboration.{invalid_parts}
use Rattle.fir_flat.specs.Resolving.{Resolves}
use Rattle.fir_flat.specs.Statements.{invalid_grounds}
use Rattle.fir_flat.proofs.statements.put_invalid.Given as goal

abbrev pub invariant-loop-k : goal.invariant-loop-k
invariant-loop-k l =
    (v : Value) → Resolves v l.sink → l.out.items ++ invalid_parts l.line v l.k (drop l.k (leaves v.ty)) ≡ l.fn.out.items ++ invalid_grounds l.line v

abbrev pub decreases-loop-k : goal.decreases-loop-k
decreases-loop-k l = length l.parts.items - l.k
