-- Types of one value.
use Rattle.std.proofs.Common.{Bool, true, false, not, None, Some, List, [], ◌∷◌, ◌≡◌, ◌∙◌, map, refl, sym, ap}
use Rattle.fir_ast.specs.declared.tree.Ty.{Ty}
use Rattle.fir_ast.specs.declared.tree.Ty.TheOpen.{Ty-F, UInt, SInt, Clock, Reset, Bundle, Vector}
use Rattle.fir_ast.specs.declared.tree.Ty.TheViews.{out-Ty, out-roll-Field}
use Rattle.fir_ast.specs.declared.tree.Field.{Field}
use Rattle.fir_ast.specs.declared.tree.Port.{Port}
use Rattle.fir_ast.specs.declared.tree.Module.{Module}
use Rattle.fir_check.specs.Types.{is_ground, is_clock, is_signed, is_uint, is_unsigned, ground_at, clock_at, signed_at, uint_at, unsigned_at}
use Rattle.fir_check.specs.Scopes.{number_type, ports_type, port_field}
use Rattle.fir_flat.specs.Shapes.{Shape, ground, clock, field, shape_of, fields_shape, ports_shape}
use Rattle.fir_flat.specs.Shapes as flat
use Rattle.fir_flat.proofs.Rolled.{shape-UInt, shape-SInt, shape-Bundle, signed-fields}
use Rattle.flat_shapes.specs.Grounds.{IsNumber, GroundsAgree, InstancesAgree}
use Rattle.flat_shapes.proofs.Tests.{never}
use Rattle.flat_shapes.proofs.Shapes.{form_shape, shape_at, fields_first}

pub clock_shape : (t : Ty) → is_clock t ≡ true → shape_of t ≡ clock
clock_shape t h = by (out-Ty t) refl h
  where
    by : (x : Ty-F Ty Field) → out-Ty t ≡ x → clock_at x ≡ true → shape_of t ≡ clock
    by (UInt w) e h = never h
    by (SInt w) e h = never h
    by Clock e h = shape_at t Clock e
    by Reset e h = never h
    by (Bundle fs) e h = never h
    by (Vector of n) e h = never h

pub unsigned_shape : (t : Ty) → is_unsigned t ≡ true → IsNumber false (shape_of t)
unsigned_shape t h = by (out-Ty t) refl h
  where
    by : (x : Ty-F Ty Field) → out-Ty t ≡ x → unsigned_at x ≡ true → IsNumber false (shape_of t)
    by (UInt w) e h = (w, shape_at t (UInt w) e)
    by (SInt w) e h = never h
    by Clock e h = never h
    by Reset e h = (Some 1, shape_at t Reset e)
    by (Bundle fs) e h = never h
    by (Vector of n) e h = never h

pub signed_shape : (t : Ty) → is_signed t ≡ true → IsNumber true (shape_of t)
signed_shape t h = by (out-Ty t) refl h
  where
    by : (x : Ty-F Ty Field) → out-Ty t ≡ x → signed_at x ≡ true → IsNumber true (shape_of t)
    by (UInt w) e h = never h
    by (SInt w) e h = (w, shape_at t (SInt w) e)
    by Clock e h = never h
    by Reset e h = never h
    by (Bundle fs) e h = never h
    by (Vector of n) e h = never h

pub ground_shape : (t : Ty) → is_ground t ≡ true → is_clock t ≡ false → IsNumber (is_signed t) (shape_of t)
ground_shape t g c = by (out-Ty t) refl g c
  where
    by : (x : Ty-F Ty Field) → out-Ty t ≡ x → ground_at x ≡ true → clock_at x ≡ false → IsNumber (signed_at (out-Ty t)) (shape_of t)
    by (UInt w) e g c = (w, shape_at t (UInt w) e ∙ ap (λ b. ground b w) (sym (ap signed_at e)))
    by (SInt w) e g c = (w, shape_at t (SInt w) e ∙ ap (λ b. ground b w) (sym (ap signed_at e)))
    by Clock e g c = never (sym c)
    by Reset e g c = (Some 1, shape_at t Reset e ∙ ap (λ b. ground b (Some 1)) (sym (ap signed_at e)))
    by (Bundle fs) e g c = never g
    by (Vector of n) e g c = never g

pub signs_same : (t : Ty) → flat.is_signed (shape_of t) ≡ is_signed t
signs_same t = ap flat.is_signed (shape_at t (out-Ty t) refl) ∙ by (out-Ty t)
  where
    by : (x : Ty-F Ty Field) → flat.is_signed (form_shape x) ≡ signed_at x
    by (UInt w) = refl
    by (SInt w) = refl
    by Clock = refl
    by Reset = refl
    by (Bundle fs) = signed-fields fs
    by (Vector of n) = refl

pub uint_unsigned : (t : Ty) → is_uint t ≡ true → is_unsigned t ≡ true
uint_unsigned t h = by (out-Ty t) h
  where
    by : (x : Ty-F Ty Field) → uint_at x ≡ true → unsigned_at x ≡ true
    by (UInt w) h = refl
    by (SInt w) h = never h
    by Clock h = never h
    by Reset h = refl
    by (Bundle fs) h = never h
    by (Vector of n) h = never h

pub number_shape : (signed : Bool) → shape_of (number_type signed) ≡ ground signed None
number_shape true = shape-SInt None
number_shape false = shape-UInt None

pub grounds_agree : GroundsAgree
grounds_agree = record {
  clocks = clock_shape;
  grounds = ground_shape;
  unsigned = unsigned_shape;
  signed = signed_shape;
  signs = signs_same;
  indices = uint_unsigned;
  numbers = number_shape;
}

-- the ports of an instance

ports_fields : (ps : List Port) → fields_shape (map port_field ps) ≡ ports_shape ps
ports_fields [] = refl
ports_fields (p ∷ ps) =
    fields_first (port_field p) (map port_field ps)
    ∙ ap (λ f. field f.flip f.name (shape_of f.ty) (fields_shape (map port_field ps))) (out-roll-Field (record { flip = not p.output; name = p.name; ty = p.ty }))
    ∙ ap (λ s. field (not p.output) p.name (shape_of p.ty) s) (ports_fields ps)

pub ports_type_shape : (m : Module) → shape_of (ports_type m) ≡ ports_shape m.ports
ports_type_shape m = shape-Bundle (map port_field m.ports) ∙ ports_fields m.ports

pub instances_agree : InstancesAgree
instances_agree = record { instances = ports_type_shape }
