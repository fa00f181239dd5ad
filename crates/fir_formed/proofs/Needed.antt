-- What typing takes from the laws on types.
use Rattle.std.proofs.Common.{◌≡◌, ℕ, ◌*◌, ◌<◌, Bool, true, false, List, [], ◌∷◌, Some, None, slice_index}
use Rattle.fir_ast.specs.declared.tree.Ty.{Ty}
use Rattle.fir_ast.specs.declared.tree.Port.{Port}
use Rattle.fir_ast.specs.declared.tree.Module.{Module}
use Rattle.fir_check.specs.Names.{seconds}
use Rattle.fir_check.specs.Types.{Slot, field_named, vector_of, repeats_field, same_shape, is_ground, is_clock, is_signed, is_uint, is_unsigned, leaves as part_leaves}
use Rattle.fir_check.specs.Scopes.{number_type, ports_type, port_name}
use Rattle.std.specs.List.{list_any}
use Rattle.fir_flat.specs.Shapes.{Shape, shape_of, ports_shape, ground, size, element, elements, partners, field_named as field_in, is_signed as signed_shape}
use Rattle.fir_flat.specs.Values.{leaf_signed}
use Rattle.fir_formed.proofs.Good.{Lies, leaf_against}

pub record FieldLaw (name : List ℕ) (t : Ty) (s : Slot Ty) : Type 0 where
  pub flip : (field_in name (shape_of t)).flip ≡ s.flip
  pub of : (field_in name (shape_of t)).of ≡ shape_of s.of
  pub lies : Lies (shape_of t) (field_in name (shape_of t)).before s.flip (field_in name (shape_of t)).of
  pub plain : repeats_field t ≡ false → repeats_field s.of ≡ false

pub record ElementLaw (t : Ty) (v : Ty × ℕ) : Type 0 where
  pub of : element (shape_of t) ≡ shape_of v.0
  pub count : elements (shape_of t) ≡ v.1
  pub lies : (i : ℕ) → i < elements (shape_of t) → Lies (shape_of t) (i * size (element (shape_of t))) false (element (shape_of t))
  pub plain : repeats_field t ≡ false → repeats_field v.0 ≡ false

-- the counterpart of a ground part
pub record Pair (t u : Shape) (k : ℕ) : Type 0 where
  pub low : slice_index (partners t u) k < size u
  pub signed : leaf_signed u (slice_index (partners t u) k) ≡ leaf_signed t k
  pub against : leaf_against u (slice_index (partners t u) k) ≡ leaf_against t k

pub record OnePart (t : Ty) (sign : Bool) : Type 0 where
  pub size : size (shape_of t) ≡ 1
  pub signed : leaf_signed (shape_of t) 0 ≡ sign

-- no type of these has a field twice
abbrev pub PlainPorts : List Port → Type 0
PlainPorts [] = Unit {0}
PlainPorts (p ∷ ps) = (repeats_field p.ty ≡ false) × PlainPorts ps

pub record ShapeLaws : Type 0 where
  pub field : (name : List ℕ) (t : Ty) (s : Slot Ty) → field_named name t ≡ Some s → FieldLaw name t s
  pub element : (t : Ty) (v : Ty × ℕ) → vector_of t ≡ Some v → ElementLaw t v
  pub pairs : (t u : Ty) → repeats_field t ≡ false → repeats_field u ≡ false → same_shape t u ≡ true → (k : ℕ) → k < size (shape_of t) → Pair (shape_of t) (shape_of u) k
  pub turned : (t u : Ty) → repeats_field t ≡ false → repeats_field u ≡ false → same_shape t u ≡ true → same_shape u t ≡ true
  pub grounds : (t : Ty) → is_ground t ≡ true → is_clock t ≡ false → OnePart t (is_signed t)
  pub unsigned : (t : Ty) → is_unsigned t ≡ true → OnePart t false
  pub uint : (t : Ty) → is_uint t ≡ true → is_unsigned t ≡ true
  pub signed : (t : Ty) → signed_shape (shape_of t) ≡ is_signed t
  pub number : (b : Bool) → shape_of (number_type b) ≡ ground b None
  pub plain_number : (b : Bool) → repeats_field (number_type b) ≡ false
  pub against : (t : Ty) → repeats_field t ≡ false → list_any (λ l. l.against) (part_leaves t) ≡ false → (k : ℕ) → k < size (shape_of t) → leaf_against (shape_of t) k ≡ false
  pub ports : (m : Module) → shape_of (ports_type m) ≡ ports_shape m.ports
  pub plain_ports : (m : Module) → seconds port_name m.ports ≡ [] → PlainPorts m.ports → repeats_field (ports_type m) ≡ false
