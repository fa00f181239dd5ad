-- What types and statements are as plain data, a variant at a time.
use Rattle.std.proofs.Common.{ℕ, Bool, true, false, Option, Some, List, [], ◌∷◌, ◌≡◌, sym, ap, ◌∙◌, refl}
use Rattle.fir_ast.specs.declared.tree.Ty.{Ty}
use Rattle.fir_ast.specs.declared.tree.Ty.TheVariants as ty
use Rattle.fir_ast.specs.declared.tree.Ty.TheFolds.{fold-roll-Field}
use Rattle.fir_ast.specs.declared.tree.Ty.TheViews.{roll-Field, out-Field, roll-out-Field}
use Rattle.fir_ast.specs.declared.tree.Field.{Field}
use Rattle.fir_check.proofs.Unrolled.{fold-UInt, fold-SInt, fold-Clock, fold-Reset, fold-Vector, fold-Bundle}
use Rattle.fir_flat.specs.Shapes.{Shape, ground, clock, empty, field, vector, shape_level, field_level, shape_of, field_shape, fields_shape, ports_shape, element, elements, is_signed}
use Rattle.fir_ast.specs.declared.tree.Port.{Port}

pub shape-UInt : (w : Option ℕ) → shape_of (ty.UInt w) ≡ ground false w
shape-UInt w = fold-UInt Shape (Shape → Shape) shape_level field_level w

pub shape-SInt : (w : Option ℕ) → shape_of (ty.SInt w) ≡ ground true w
shape-SInt w = fold-SInt Shape (Shape → Shape) shape_level field_level w

pub shape-Clock : shape_of ty.Clock ≡ clock
shape-Clock = fold-Clock Shape (Shape → Shape) shape_level field_level

pub shape-Reset : shape_of ty.Reset ≡ ground false (Some 1)
shape-Reset = fold-Reset Shape (Shape → Shape) shape_level field_level

pub shape-Vector : (t : Ty) (n : ℕ) → shape_of (ty.Vector t n) ≡ vector (shape_of t) n
shape-Vector t n = fold-Vector Shape (Shape → Shape) shape_level field_level t n

pub shape-Bundle : (fs : List Field) → shape_of (ty.Bundle fs) ≡ fields_shape fs
shape-Bundle fs = fold-Bundle Shape (Shape → Shape) shape_level field_level fs

-- a field is its flip, its name and its type
pub field-parts : (f : Field) (rest : Shape)
    → field_shape f rest ≡ field (out-Field f).flip (out-Field f).name (shape_of (out-Field f).ty) rest
field-parts f rest =
    ap (λ g. field_shape g rest) (sym (roll-out-Field f))
    ∙ ap (λ (h : Shape → Shape). h rest) (fold-roll-Field Shape (Shape → Shape) shape_level field_level (out-Field f))

pub shape-none : shape_of (ty.Bundle []) ≡ empty
shape-none = shape-Bundle []

pub shape-first : (flip : Bool) (name : List ℕ) (t : Ty) (fs : List Field)
    → shape_of (ty.Bundle (roll-Field (record { flip = flip; name = name; ty = t }) ∷ fs)) ≡ field flip name (shape_of t) (shape_of (ty.Bundle fs))
shape-first flip name t fs =
    shape-Bundle (roll-Field (record { flip = flip; name = name; ty = t }) ∷ fs)
    ∙ ap (λ (f : Shape → Shape). f (fields_shape fs)) (fold-roll-Field Shape (Shape → Shape) shape_level field_level (record { flip = flip; name = name; ty = t }))
    ∙ ap (field flip name (shape_of t)) (sym (shape-Bundle fs))

pub ruleset shapes = (shape-UInt, shape-SInt, shape-Clock, shape-Reset, shape-Vector, shape-none, shape-first)

-- a bundle has no elements, and is no number

pub elements-fields : (fs : List Field) → elements (fields_shape fs) ≡ 0
elements-fields [] = refl
elements-fields (f ∷ fs) = ap elements (field-parts f (fields_shape fs))

pub element-fields : (fs : List Field) → element (fields_shape fs) ≡ empty
element-fields [] = refl
element-fields (f ∷ fs) = ap element (field-parts f (fields_shape fs))

pub signed-fields : (fs : List Field) → is_signed (fields_shape fs) ≡ false
signed-fields [] = refl
signed-fields (f ∷ fs) = ap is_signed (field-parts f (fields_shape fs))

pub elements-ports : (ps : List Port) → elements (ports_shape ps) ≡ 0
elements-ports [] = refl
elements-ports (p ∷ ps) = refl

pub element-ports : (ps : List Port) → element (ports_shape ps) ≡ empty
element-ports [] = refl
element-ports (p ∷ ps) = refl

pub signed-ports : (ps : List Port) → is_signed (ports_shape ps) ≡ false
signed-ports [] = refl
signed-ports (p ∷ ps) = refl

pub ruleset bundles = (shape-Bundle, elements-fields, element-fields, signed-fields, elements-ports, element-ports, signed-ports)
