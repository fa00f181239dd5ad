-- Types of one value: what the rules say of a type, and its ground parts.
use Rattle.std.specs.Prelude.{◌≡◌, ℕ, Bool, true, false, Option, None}
use Rattle.fir_ast.specs.declared.tree.Ty.{Ty}
use Rattle.fir_ast.specs.declared.tree.Module.{Module}
use Rattle.fir_check.specs.Types.{is_ground, is_clock, is_signed, is_uint, is_unsigned}
use Rattle.fir_check.specs.Scopes.{number_type, ports_type}
use Rattle.fir_flat.specs.Shapes.{Shape, ground, clock, shape_of, ports_shape}
use Rattle.fir_flat.specs.Shapes as flat

-- the shape is one ground part of this sign
abbrev pub IsNumber : Bool → Shape → Type 0
IsNumber signed s = (width : Option ℕ) × (s ≡ ground signed width)

pub record GroundsAgree : Type 0 where
  -- a Clock has no ground part
  pub clocks : (t : Ty) → is_clock t ≡ true → shape_of t ≡ clock
  -- any other ground type has one, of its own sign
  pub grounds : (t : Ty) → is_ground t ≡ true → is_clock t ≡ false → IsNumber (is_signed t) (shape_of t)
  pub unsigned : (t : Ty) → is_unsigned t ≡ true → IsNumber false (shape_of t)
  pub signed : (t : Ty) → is_signed t ≡ true → IsNumber true (shape_of t)
  -- both say of the same types that they are signed
  pub signs : (t : Ty) → flat.is_signed (shape_of t) ≡ is_signed t
  pub indices : (t : Ty) → is_uint t ≡ true → is_unsigned t ≡ true
  -- results of operations and literals, whose width is not written
  pub numbers : (signed : Bool) → shape_of (number_type signed) ≡ ground signed None

-- an instance is a bundle of the same ports
pub record InstancesAgree : Type 0 where
  pub instances : (m : Module) → shape_of (ports_type m) ≡ ports_shape m.ports
