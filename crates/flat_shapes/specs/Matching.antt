-- Types of one shape: each ground part of the one and its counterpart in the other.
use Rattle.std.specs.Prelude.{◌≡◌, ◌<◌, ℕ, Bool, true, false, List, [], map, Some, slice_index, slice_index_or}
use Rattle.std.specs.List.{AllZip}
use Rattle.fir_ast.specs.declared.tree.Ty.{Ty}
use Rattle.fir_ast.specs.declared.tree.Module.{Module}
use Rattle.fir_check.specs.Names.{seconds}
use Rattle.fir_check.specs.Scopes.{port_name, number_type, ports_type}
use Rattle.fir_check.specs.Rules.{port_lines}
use Rattle.fir_check.specs.Types.{Slot, field_named, vector_of, repeats_field, same_shape}
use Rattle.fir_flat.specs.Shapes.{Shape, shape_of, size, Leaf, leaves, partners}

-- the ground part of the type at the place is there, has the sign of this one and goes the same way
pub record Counterpart (u : Shape) (l : Leaf) (place : ℕ) : Type 0 where
  pub within : place < size u
  pub signed : (d : Leaf) → l.signed ≡ (slice_index_or (leaves u) place d).signed
  pub against : (d : Leaf) → l.against ≡ (slice_index_or (leaves u) place d).against

pub record Matched (s u : Shape) : Type 0 where
  pub each : (k : ℕ) (d : Leaf) → k < size s → Counterpart u (slice_index_or (leaves s) k d) (slice_index (partners s u) k)
  -- the same, along both lists
  pub along : AllZip (Counterpart u) (leaves s) (partners s u)

pub record ShapesMatch : Type 0 where
  pub matched : (t u : Ty) → repeats_field t ≡ false → same_shape t u ≡ true → Matched (shape_of t) (shape_of u)
  -- what is inside a type without repeated names has none
  pub fields : (name : List ℕ) (t : Ty) (slot : Slot Ty) → repeats_field t ≡ false → field_named name t ≡ Some slot → repeats_field slot.of ≡ false
  pub elements : (t of : Ty) (n : ℕ) → repeats_field t ≡ false → vector_of t ≡ Some (of, n) → repeats_field of ≡ false
  -- nor has what a literal or an operation gives
  pub numbers : (signed : Bool) → repeats_field (number_type signed) ≡ false
  -- an instance, where no two ports have one name and no port's type repeats one
  pub instances : (m : Module) → map (λ p. p.line) (seconds port_name m.ports) ≡ [] → port_lines (λ p. repeats_field p.ty) m.ports ≡ []
      → repeats_field (ports_type m) ≡ false
