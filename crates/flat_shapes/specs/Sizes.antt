-- Types of one shape have as many ground parts.
use Rattle.std.specs.Prelude.{◌≡◌, true, false}
use Rattle.fir_ast.specs.declared.tree.Ty.{Ty}
use Rattle.fir_check.specs.Types.{repeats_field, same_shape}
use Rattle.fir_flat.specs.Shapes.{shape_of, size}

pub record SizesAgree : Type 0 where
  pub sizes : (t u : Ty) → repeats_field t ≡ false → repeats_field u ≡ false → same_shape t u ≡ true → size (shape_of t) ≡ size (shape_of u)
