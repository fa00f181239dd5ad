-- The shapes of two bundles.
use Rattle.std.proofs.Common.{ℕ, Bool, true, false, not, ◌&&◌, ◌≡◌, ◌<◌, arith, List, [], length, map, take, get_or, refl, sym, ap, ◌∙◌, Option, None, Some, is_some, option_map}
use Rattle.std.specs.Prelude.{find, bytes_eq}
use Rattle.std.specs.List.{list_any, list_all}
use Rattle.std.specs.Borrow.{Bor}
use Rattle.fir_ast.specs.declared.tree.Ty.{Ty}
use Rattle.fir_ast.specs.declared.tree.Ty.TheVariants as ty
use Rattle.fir_ast.specs.declared.tree.Ty.TheViews.{out-Field}
use Rattle.fir_ast.specs.declared.tree.Field.{Field}
use Rattle.fir_check.specs.Names.{is_among}
use Rattle.fir_check.specs.Types.{Slot, slot, slot_name, slots_at, fields_of, field_named, same, same_fields, same_shape, shape_level, bundle_at}
use Rattle.fir_check.specs.Fields.{field_flip, field_name, field_type, first_fields, named_slot, lent_slot, matches, has_match, have_matches, has_name_in, have_names}
use Rattle.fir_check.proofs.Unrolled.{out-Bundle}
use Rattle.fir_check.proofs.Names.{found_is, any_named, any_is_found, find_map, find_at, find_first, any_first, all_first, map_take, map_at, map_length, all_among}
use Rattle.fir_check.proofs.Firsts.{At}
use Rattle.fir_check.proofs.Bundles.{folded, over_bundle, firsts_map, any_map, all_map, all_same}

abbrev pub slot_of : Field → Slot Ty
slot_of f = slot (out-Field f)

pub bundle_fields : (others : List Field) → fields_of (ty.Bundle others) ≡ map slot_of (first_fields others)
bundle_fields others = ap slots_at (out-Bundle others) ∙ firsts_map slot_of field_name slot_name (λ x. refl) [] others

-- a look-up among all fields
pub bundle_named : (name : List ℕ) (fields : List Field) → field_named name (ty.Bundle fields) ≡ named_slot name fields
bundle_named name fields =
    ap (λ t. find (λ (f : Slot Ty). bytes_eq f.name name) (slots_at t)) (out-Bundle fields)
    ∙ find_first slot_name name [] (map slot_of fields) refl

-- whether a field matches one whose slot is given
abbrev pub matches_slot : Field → Slot Ty → Bool
matches_slot f s = same (field_flip f) s.flip && same_shape (field_type f) s.of

found_map : (P : Slot Ty → Bool) (r : Option Field) → found_is (λ g. P (slot_of g)) r ≡ found_is P (option_map slot_of r)
found_map P None = refl
found_map P (Some f) = refl

-- a field matches where the first of its name does
pub has_match_named : (others : List Field) (f : Field) → has_match others f ≡ found_is (matches_slot f) (named_slot (field_name f) others)
has_match_named others f =
    any_named field_name (field_name f) (matches f) [] others refl
    ∙ found_map (matches_slot f) (find (λ g. bytes_eq (field_name g) (field_name f)) others)
    ∙ ap (found_is (matches_slot f)) (sym (find_map (λ (s : Slot Ty). bytes_eq s.name (field_name f)) slot_of others))

-- a bundle of the same names in the same order: the first of a name stands at the same place
same_place : (fields others : List Field) (k : ℕ) (f g : Field) → map field_name fields ≡ map field_name others → k < length fields → k < length others
    → f ≡ get_or fields k f → g ≡ get_or others k g → is_among (field_name f) (map field_name (take k fields)) ≡ false
    → has_match others f ≡ matches f g
same_place fields others k f g e v w p q h =
    let one : field_name g ≡ field_name f =
    sym (map_at field_name others k g [] w q) ∙ ap (λ ns. get_or ns k []) (sym e) ∙ map_at field_name fields k f [] v p in
    let other : is_among (field_name f) (map field_name (take k others)) ≡ false =
    ap (is_among (field_name f)) (map_take field_name k others ∙ ap (take k) (sym e) ∙ sym (map_take field_name k fields)) ∙ h in
    any_named field_name (field_name f) (matches f) [] others refl
    ∙ ap (found_is (matches f)) (find_at field_name (field_name f) others k g other w q one)

and_none : (a b : Bool) → (a && false) ≡ (b && false)
and_none true true = refl
and_none true false = refl
and_none false true = refl
and_none false false = refl

pub in_order_at : (fields others : List Field) (k : ℕ) (f g : Field) (alike r b : Bool) (n : List ℕ) → map field_name fields ≡ map field_name others
    → k < length fields → f ≡ get_or fields k f → g ≡ get_or others k g → alike ≡ matches f g → n ≡ field_name f
    → r ≡ (not alike && not (is_among n (map field_name (take k fields)))) → r ≡ b → At field_name fields k f (not (has_match others f)) b
in_order_at fields others k f g alike r b n e v p q a m c z = record {
  within = v;
  is = p;
  counts = sym z ∙ c ∙ ap (λ t. not t && not (is_among n (map field_name (take k fields)))) a
      ∙ ap (λ t. not (matches f g) && not (is_among t (map field_name (take k fields)))) m
      ∙ by (is_among (field_name f) (map field_name (take k fields))) refl;
}
  where
    w : k < length others
    w = omega (arith, v, ap length e, map_length field_name fields, map_length field_name others)

    by : (t : Bool) → is_among (field_name f) (map field_name (take k fields)) ≡ t → (not (matches f g) && not t) ≡ (not (has_match others f) && not t)
    by true s = and_none (not (matches f g)) (not (has_match others f))
    by false s = ap (λ t. not t && true) (sym (same_place fields others k f g e v w p q s))

has_name_slots : (fields : List Field) (g : Field) → list_any (λ (x : Slot (Ty → Bool)). bytes_eq x.name (field_name g)) (map (folded same_shape) (first_fields fields)) ≡ has_name_in fields g
has_name_slots fields g =
    any_map (λ (x : Slot (Ty → Bool)). bytes_eq x.name (field_name g)) (folded same_shape) (first_fields fields) ∙ any_first field_name (field_name g) fields

names_of_slots : (fields others : List Field)
    → list_all (λ (y : Slot Ty). list_any (λ (x : Slot (Ty → Bool)). bytes_eq x.name y.name) (map (folded same_shape) (first_fields fields))) (map slot_of (first_fields others))
    ≡ have_names others fields
names_of_slots fields others =
    all_map (λ (y : Slot Ty). list_any (λ (x : Slot (Ty → Bool)). bytes_eq x.name y.name) (map (folded same_shape) (first_fields fields))) slot_of (first_fields others)
    ∙ all_same (λ g. list_any (λ (x : Slot (Ty → Bool)). bytes_eq x.name (field_name g)) (map (folded same_shape) (first_fields fields))) (has_name_in fields) (has_name_slots fields) (first_fields others)
    ∙ all_first field_name (λ n. list_any (λ f. bytes_eq (field_name f) n) fields) others

matches_of_slots : (fields others : List Field)
    → list_all (λ (x : Slot (Ty → Bool)). list_any (λ (y : Slot Ty). bytes_eq x.name y.name && (same x.flip y.flip && x.of y.of)) (map slot_of (first_fields others))) (map (folded same_shape) (first_fields fields))
    ≡ have_matches fields others
matches_of_slots fields others =
    all_map (λ (x : Slot (Ty → Bool)). list_any (λ (y : Slot Ty). bytes_eq x.name y.name && (same x.flip y.flip && x.of y.of)) (map slot_of (first_fields others))) (folded same_shape) (first_fields fields)
    ∙ all_same (λ f. list_any (λ (y : Slot Ty). bytes_eq (field_name f) y.name && (same (field_flip f) y.flip && same_shape (field_type f) y.of)) (map slot_of (first_fields others))) (has_match others)
    (λ f. any_map (λ (y : Slot Ty). bytes_eq (field_name f) y.name && (same (field_flip f) y.flip && same_shape (field_type f) y.of)) slot_of (first_fields others)) (first_fields fields)

pub bundle_shape : (fields others : List Field) → same_shape (ty.Bundle fields) (ty.Bundle others) ≡ have_matches fields others && have_names others fields
bundle_shape fields others =
    ap (λ (h : Ty → Bool). h (ty.Bundle others)) (over_bundle (Ty → Bool) shape_level fields)
    ∙ ap (λ b. b && same_fields (map (folded same_shape) (first_fields fields)) (fields_of (ty.Bundle others))) (ap bundle_at (out-Bundle others))
    ∙ ap (same_fields (map (folded same_shape) (first_fields fields))) (bundle_fields others)
    ∙ ap (λ b. b && list_all (λ (y : Slot Ty). list_any (λ (x : Slot (Ty → Bool)). bytes_eq x.name y.name) (map (folded same_shape) (first_fields fields))) (map slot_of (first_fields others)))
    (matches_of_slots fields others)
    ∙ ap (λ b. have_matches fields others && b) (names_of_slots fields others)

among_fields : (fields : List Field) (g : Field) → has_name_in fields g ≡ is_among (field_name g) (map field_name fields)
among_fields fields g = sym (any_map (λ n. bytes_eq n (field_name g)) field_name fields)

pub in_order_names : (fields others : List Field) → map field_name fields ≡ map field_name others → have_names others fields ≡ true
in_order_names fields others e =
    all_same (has_name_in fields) (λ g. is_among (field_name g) (map field_name fields)) (among_fields fields) others
    ∙ sym (all_map (λ n. is_among n (map field_name fields)) field_name others)
    ∙ all_among (map field_name fields) (map field_name others) (λ n r. ap (is_among n) e ∙ r)

-- whether a name is found
pub name_found : (fields : List Field) (g : Field) → has_name_in fields g ≡ is_some (named_slot (field_name g) fields)
name_found fields g =
    any_is_found (λ f. bytes_eq (field_name f) (field_name g)) fields
    ∙ some_map slot_of (find (λ f. bytes_eq (field_name f) (field_name g)) fields)
    ∙ ap is_some (sym (find_map (λ (s : Slot Ty). bytes_eq s.name (field_name g)) slot_of fields))
  where
    some_map : {X Y : Type 0} (h : X → Y) (r : Option X) → is_some r ≡ is_some (option_map h r)
    some_map h None = refl
    some_map h (Some x) = refl

-- a name that is looked for in the code
pub name_lacks : (fields : List Field) (g : Field) (n : List ℕ) (r : Option (Bor Field)) (b : Bool) → n ≡ field_name g → option_map lent_slot r ≡ named_slot n fields
    → is_some r ≡ not b → has_name_in fields g ≡ not b
name_lacks fields g n r b e m p =
    name_found fields g ∙ ap is_some (ap (λ k. named_slot k fields) (sym e) ∙ sym m) ∙ none r ∙ p
  where
    none : (s : Option (Bor Field)) → is_some (option_map lent_slot s) ≡ is_some s
    none None = refl
    none (Some x) = refl
