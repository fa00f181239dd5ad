-- The fields of a bundle, as its list has them, and what is asked of those that their names mean.
use Rattle.std.specs.Prelude.{ℕ, Bool, not, ◌&&◌, ◌||◌, ◌==◌, Option, List, map, find, length, bytes_eq}
use Rattle.std.specs.List.{list_any, list_all}
use Rattle.std.specs.Borrow.{Bor}
use Rattle.fir_ast.specs.declared.tree.Ty.{Ty}
use Rattle.fir_ast.specs.declared.tree.Ty.TheViews.{out-Field}
use Rattle.fir_ast.specs.declared.tree.Field.{Field}
use Rattle.fir_check.specs.Names.{firsts, seconds}
use Rattle.fir_check.specs.Types.{Slot, slot, Leaf, leaves, same, same_shape, has_flip}

abbrev pub field_flip : Field → Bool
field_flip f = (out-Field f).flip

abbrev pub field_name : Field → List ℕ
field_name f = (out-Field f).name

abbrev pub field_type : Field → Ty
field_type f = (out-Field f).ty

-- the fields that their names mean
abbrev pub first_fields : List Field → List Field
first_fields fields = firsts field_name fields

-- the first field of a name
abbrev pub named_slot : List ℕ → List Field → Option (Slot Ty)
named_slot name fields = find (λ s. bytes_eq s.name name) (map (λ f. slot (out-Field f)) fields)

-- two fields have one name
abbrev pub repeats_name : List Field → Bool
repeats_name fields = not (length (seconds field_name fields) == 0)

-- a flipped field, or one with a flip in it
abbrev pub flips : Field → Bool
flips f = field_flip f || has_flip (field_type f)

-- a ground part that goes against its type, or with it where `turned`; if `unsized_only`, one without width
abbrev pub is_wanted : Bool → Bool → Leaf → Bool
is_wanted turned unsized_only l = not (same turned l.against) && (not unsized_only || l.unsized)

-- a field with such a part
abbrev pub has_wanted : Bool → Bool → Field → Bool
has_wanted turned unsized_only f = list_any (is_wanted (not (same turned (field_flip f))) unsized_only) (leaves (field_type f))

-- both are flipped or neither is, and their types have one shape
abbrev pub matches : Field → Field → Bool
matches f g = same (field_flip f) (field_flip g) && same_shape (field_type f) (field_type g)

-- some field that its name means is of this name, and matches
abbrev pub has_match : List Field → Field → Bool
has_match others f = list_any (λ g. bytes_eq (field_name f) (field_name g) && matches f g) (first_fields others)

abbrev pub have_matches : List Field → List Field → Bool
have_matches fields others = list_all (has_match others) (first_fields fields)

-- each name of the one is a name of the other
abbrev pub has_name_in : List Field → Field → Bool
has_name_in fields g = list_any (λ f. bytes_eq (field_name f) (field_name g)) fields

abbrev pub have_names : List Field → List Field → Bool
have_names others fields = list_all (has_name_in fields) others

-- a field that is lent
abbrev pub lent_slot : Bor Field → Slot Ty
lent_slot f = slot (out-Field f.now)

-- an element and a length, where the element is lent
abbrev pub lent_pair : Bor Ty × ℕ → Ty × ℕ
lent_pair v = (v.0.now, v.1)
