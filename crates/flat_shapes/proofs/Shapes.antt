-- The shape of a type of each form.
use Rattle.std.proofs.Common.{true, false, Some, List, ◌∷◌, ◌≡◌, ◌∙◌, refl, ap}
use Rattle.fir_ast.specs.declared.tree.Ty.{Ty}
use Rattle.fir_ast.specs.declared.tree.Ty.TheOpen.{Ty-F, UInt, SInt, Clock, Reset, Bundle, Vector}
use Rattle.fir_ast.specs.declared.tree.Ty.TheViews.{out-Ty}
use Rattle.fir_ast.specs.declared.tree.Ty.TheFolds.{fold-roll-Ty, map-Ty}
use Rattle.fir_ast.specs.declared.tree.Field.{Field}
use Rattle.fir_check.specs.Fields.{field_flip, field_name, field_type}
use Rattle.fir_flat.specs.Shapes.{Shape, ground, clock, vector, field, shape_level, field_level, shape_of, field_shape, fields_shape}
use Rattle.fir_flat.proofs.Rolled.{field-parts}
use Rattle.flat_shapes.proofs.Forms.{rolled}

abbrev pub form_shape : Ty-F Ty Field → Shape
form_shape (UInt w) = ground false w
form_shape (SInt w) = ground true w
form_shape Clock = clock
form_shape Reset = ground false (Some 1)
form_shape (Bundle fs) = fields_shape fs
form_shape (Vector of n) = vector (shape_of of) n

level_is : (x : Ty-F Ty Field) → shape_level (map-Ty Ty Field Shape (Shape → Shape) shape_of field_shape x) ≡ form_shape x
level_is (UInt w) = refl
level_is (SInt w) = refl
level_is Clock = refl
level_is Reset = refl
level_is (Bundle fs) = refl
level_is (Vector of n) = refl

pub shape_at : (t : Ty) (x : Ty-F Ty Field) → out-Ty t ≡ x → shape_of t ≡ form_shape x
shape_at t x e =
    ap shape_of (rolled t x e) ∙ fold-roll-Ty Shape (Shape → Shape) shape_level field_level x ∙ level_is x

-- a field in front of the others
pub fields_first : (f : Field) (fs : List Field)
    → fields_shape (f ∷ fs) ≡ field (field_flip f) (field_name f) (shape_of (field_type f)) (fields_shape fs)
fields_first f fs = field-parts f (fields_shape fs)
