-- Types as the rules see them.
-- A field whose name an earlier field of its bundle has is passed over: the name means the first.
use Rattle.std.specs.Prelude.{ℕ, Bool, true, false, not, ◌&&◌, ◌||◌, ◌==◌, if◌then◌else◌, Option, Some, None, List, [], ◌∷◌, map, flat_map, find, is_none, length, bytes_eq}
use Rattle.std.specs.List.{list_any, list_all}
use Rattle.fir_ast.specs.declared.tree.Ty.{Ty}
use Rattle.fir_ast.specs.declared.tree.Ty.TheViews.{out-Ty, out-Field}
use Rattle.fir_ast.specs.declared.tree.Ty.TheFolds.{fold-Ty}
use Rattle.fir_ast.specs.declared.tree.Ty.TheOpen.{Ty-F, Field-F, UInt, SInt, Clock, Reset, Bundle, Vector}
use Rattle.fir_ast.specs.declared.tree.Field.{Field}
use Rattle.fir_check.specs.Names.{seconds, firsts}

-- ground types

-- a type of one value
abbrev pub ground_at : {A B : Type 0} → Ty-F A B → Bool
ground_at (UInt _) = true
ground_at (SInt _) = true
ground_at Clock = true
ground_at Reset = true
ground_at _ = false

abbrev pub is_ground : Ty → Bool
is_ground t = ground_at (out-Ty t)

-- the type Clock
abbrev pub clock_at : {A B : Type 0} → Ty-F A B → Bool
clock_at Clock = true
clock_at _ = false

abbrev pub is_clock : Ty → Bool
is_clock t = clock_at (out-Ty t)

-- an SInt of any width
abbrev pub signed_at : {A B : Type 0} → Ty-F A B → Bool
signed_at (SInt _) = true
signed_at _ = false

abbrev pub is_signed : Ty → Bool
is_signed t = signed_at (out-Ty t)

-- a UInt of any width
abbrev pub uint_at : {A B : Type 0} → Ty-F A B → Bool
uint_at (UInt _) = true
uint_at _ = false

abbrev pub is_uint : Ty → Bool
is_uint t = uint_at (out-Ty t)

-- a UInt of any width or a Reset, which is a UInt of one bit
abbrev pub unsigned_at : {A B : Type 0} → Ty-F A B → Bool
unsigned_at (UInt _) = true
unsigned_at Reset = true
unsigned_at _ = false

abbrev pub is_unsigned : Ty → Bool
is_unsigned t = unsigned_at (out-Ty t)

-- bundles and vectors

-- a field, with what is known of its type
pub record Slot (A : Type 0) : Type 0 where
  pub flip : Bool
  pub name : List ℕ
  pub of : A

abbrev pub slot : {A B : Type 0} → Field-F A B → Slot A
slot f = record { flip = f.flip; name = f.name; of = f.ty }

abbrev pub slot_name : {A : Type 0} → Slot A → List ℕ
slot_name s = s.name

abbrev pub bundle_at : {A B : Type 0} → Ty-F A B → Bool
bundle_at (Bundle _) = true
bundle_at _ = false

abbrev pub is_bundle : Ty → Bool
is_bundle t = bundle_at (out-Ty t)

abbrev pub slots_at : Ty-F Ty Field → List (Slot Ty)
slots_at (Bundle fields) = firsts slot_name (map (λ f. slot (out-Field f)) fields)
slots_at _ = []

-- the fields of a bundle; none where the type is no bundle
abbrev pub fields_of : Ty → List (Slot Ty)
fields_of t = slots_at (out-Ty t)

-- the field of a name
abbrev pub field_named : List ℕ → Ty → Option (Slot Ty)
field_named name t = find (λ f. bytes_eq f.name name) (fields_of t)

abbrev pub vector_at : {A B : Type 0} → Ty-F A B → Option (A × ℕ)
vector_at (Vector of n) = Some (of, n)
vector_at _ = None

-- a vector's element and length
abbrev pub vector_of : Ty → Option (Ty × ℕ)
vector_of t = vector_at (out-Ty t)

-- folds over types

abbrev pub with_firsts : {A : Type 0} → Ty-F A (Slot A) → Ty-F A (Slot A)
with_firsts (Bundle fields) = Bundle (firsts slot_name fields)
with_firsts t = t

-- a fold that sees the first field of each name alone
abbrev pub over_type : (A : Type 0) → (Ty-F A (Slot A) → A) → Ty → A
over_type A level = fold-Ty A (Slot A) (λ t. level (with_firsts t)) slot

-- whether a bundle in the type has two fields of one name
abbrev pub repeat_level : Ty-F Bool (Slot Bool) → Bool
repeat_level (Bundle fields) = not (length (seconds slot_name fields) == 0) || list_any (λ f. f.of) fields
repeat_level (Vector of _) = of
repeat_level _ = false

abbrev pub repeats_field : Ty → Bool
repeats_field = fold-Ty Bool (Slot Bool) repeat_level slot

-- whether a field in the type is flipped
abbrev pub flip_level : Ty-F Bool (Slot Bool) → Bool
flip_level (Bundle fields) = list_any (λ f. f.flip || f.of) fields
flip_level (Vector of _) = of
flip_level _ = false

abbrev pub has_flip : Ty → Bool
has_flip = over_type Bool flip_level

-- whether the type is a Clock or has one in it
abbrev pub clock_level : Ty-F Bool (Slot Bool) → Bool
clock_level Clock = true
clock_level (Bundle fields) = list_any (λ f. f.of) fields
clock_level (Vector of _) = of
clock_level _ = false

abbrev pub holds_clock : Ty → Bool
holds_clock = over_type Bool clock_level

-- both are true, or neither is
abbrev pub same : Bool → Bool → Bool
same true y = y
same false y = not y

-- a ground part: whether it goes against the type, flips counted, and whether it is a UInt or SInt without width
pub record Leaf : Type 0 where
  pub against : Bool
  pub unsized : Bool

abbrev pub leaf : Option ℕ → Leaf
leaf width = record { against = false; unsized = is_none width }

abbrev pub turned_leaf : Bool → Leaf → Leaf
turned_leaf flip l = record { against = not (same flip l.against); unsized = l.unsized }

abbrev pub leaf_level : Ty-F (List Leaf) (Slot (List Leaf)) → List Leaf
leaf_level (UInt width) = leaf width ∷ []
leaf_level (SInt width) = leaf width ∷ []
leaf_level Clock = leaf (Some 1) ∷ []
leaf_level Reset = leaf (Some 1) ∷ []
leaf_level (Bundle fields) = flat_map (λ f. map (turned_leaf f.flip) f.of) fields
leaf_level (Vector of n) = if n == 0 then [] else of

-- the ground parts of a type, those of one element for all of its vector; a vector of no elements has none
abbrev pub leaves : Ty → List Leaf
leaves = over_type (List Leaf) leaf_level

-- shapes

-- each field has one of its name, its flip and its shape on the other side, and none is left over there
abbrev pub same_fields : List (Slot (Ty → Bool)) → List (Slot Ty) → Bool
same_fields xs ys =
    list_all (λ x. list_any (λ y. bytes_eq x.name y.name && (same x.flip y.flip && x.of y.of)) ys) xs
    && list_all (λ y. list_any (λ x. bytes_eq x.name y.name) xs) ys

abbrev pub same_vector : (Ty → Bool) → ℕ → Option (Ty × ℕ) → Bool
same_vector of n None = false
same_vector of n (Some v) = n == v.1 && of v.0

abbrev pub shape_level : Ty-F (Ty → Bool) (Slot (Ty → Bool)) → Ty → Bool
shape_level (UInt _) t = is_unsigned t
shape_level Reset t = is_unsigned t
shape_level (SInt _) t = is_signed t
shape_level Clock t = is_clock t
shape_level (Bundle fields) t = is_bundle t && same_fields fields (fields_of t)
shape_level (Vector of n) t = same_vector of n (vector_of t)

-- whether two types have one shape: widths don't count, a Reset is a UInt, bundles match by their fields' names in any order,
-- vectors by length and element
abbrev pub same_shape : Ty → Ty → Bool
same_shape = over_type (Ty → Bool) shape_level
