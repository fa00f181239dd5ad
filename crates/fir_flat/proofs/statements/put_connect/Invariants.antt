use Rattle.std.proofs.Common.{◌≡◌, ◌++◌, ◌-◌, length, drop}
use Rattle.fir_flat.specs.Shapes.{leaves}
use Rattle.fir_flat.specs.Values.{Value}
use Rattle.fir_flat.specs.Elaboration.{connect_parts}
use Rattle.fir_flat.specs.Resolving.{Resolves}
use Rattle.fir_flat.specs.Statements.{connect_grounds}
use Rattle.fir_flat.proofs.statements.put_connect.Given as goal

abbrev pub invariant-loop-k : goal.invariant-loop-k
invariant-loop-k l =
    (s v : Value) → Resolves s l.sink → Resolves v l.value
    → l.out.items ++ connect_parts l.line s v l.k (drop l.k (leaves s.ty)) (drop l.k l.partners.items) ≡ l.fn.out.items ++ connect_grounds l.line s v

abbrev pub decreases-loop-k : goal.decreases-loop-k
decreases-loop-k l = length l.parts.items - l.k
