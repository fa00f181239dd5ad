-- Parts of aggregates: where the ground parts of a field or of an element stand among those of the whole.
use Rattle.std.specs.Prelude.{◌≡◌, ◌+◌, ◌*◌, ◌<◌, ◌≤◌, ℕ, Bool, true, false, ◌||◌, Some, List, slice_get, slice_index_or, option_map, bytes_eq}
use Rattle.fir_ast.specs.declared.tree.Ty.{Ty}
use Rattle.fir_check.specs.Types.{Slot, field_named, vector_of}
use Rattle.fir_flat.specs.Shapes.{Shape, ground, clock, empty, field, vector, shape_of, size, Leaf, leaves, in_field, in_element, FieldPlace}
use Rattle.fir_flat.specs.Shapes as flat

-- the ground parts of a part stand in a row among those of the whole, behind so many others, each as `into` makes it
pub record StandsIn (part whole : Shape) (before : ℕ) (into : Leaf → Leaf) : Type 0 where
  pub fits : before + size part ≤ size whole
  pub at : (k : ℕ) → k < size part → slice_get (leaves whole) (before + k) ≡ option_map into (slice_get (leaves part) k)
  pub at_or : (k : ℕ) (d : Leaf) → k < size part → slice_index_or (leaves whole) (before + k) d ≡ into (slice_index_or (leaves part) k d)

-- a bundle has a field of the name
abbrev pub has_field : List ℕ → Shape → Bool
has_field name (field flip other of rest) = bytes_eq other name || has_field name rest
has_field name _ = false

-- what the rules find under a name is what is found among the ground parts
pub record SameField (slot : Slot Ty) (s : Shape) (name : List ℕ) (f : FieldPlace) : Type 0 where
  pub flip : f.flip ≡ slot.flip
  pub of : f.of ≡ shape_of slot.of
  pub stands : StandsIn f.of s f.before (in_field f.flip name)

pub record FieldsAgree : Type 0 where
  pub fields : (name : List ℕ) (t : Ty) (slot : Slot Ty) → field_named name t ≡ Some slot
      → SameField slot (shape_of t) name (flat.field_named name (shape_of t))
  -- of any shape
  pub stands : (name : List ℕ) (s : Shape) → has_field name s ≡ true
      → StandsIn (flat.field_named name s).of s (flat.field_named name s).before (in_field (flat.field_named name s).flip name)

pub record ElementsAgree : Type 0 where
  pub vectors : (t of : Ty) (n : ℕ) → vector_of t ≡ Some (of, n) → shape_of t ≡ vector (shape_of of) n
  pub element : (t of : Ty) (n : ℕ) → vector_of t ≡ Some (of, n) → flat.element (shape_of t) ≡ shape_of of
  pub elements : (t of : Ty) (n : ℕ) → vector_of t ≡ Some (of, n) → flat.elements (shape_of t) ≡ n
  pub size : (s : Shape) (i k : ℕ) → i < flat.elements s → k < flat.size (flat.element s) → i * flat.size (flat.element s) + k < flat.size s
  -- of any shape
  pub stands : (s : Shape) (i : ℕ) → i < flat.elements s → StandsIn (flat.element s) s (i * flat.size (flat.element s)) (in_element i)
