-- What holds of each ground part.
use Rattle.std.proofs.Common.{ℕ, zero, suc, ◌≡◌, ◌∙◌, ◌==◌, Bool, true, false, not, ◌&&◌, ◌||◌, if◌then◌else◌, Option, None, Some, is_some, List, [], ◌∷◌, map, refl, sym, ap, subst, true≢false}
use Rattle.std.specs.Prelude.{is_none}
use Rattle.std.specs.List.{All, range_with_len, flat_map, list_any, list_all}
use Rattle.std.proofs.Math.Dec.{eqb-suc-zero}
use Rattle.std.proofs.lemmas.List.Elements.{All-nil, All-cons, All-append, All-map, All-weaker}
use Rattle.std.proofs.lemmas.List.Folds.{list_any-append}
use Rattle.fir_ast.specs.declared.tree.Ty.{Ty}
use Rattle.fir_ast.specs.declared.tree.Ty.TheVariants as ty
use Rattle.fir_ast.specs.declared.tree.Ty.TheOpen.{Ty-F}
use Rattle.fir_ast.specs.declared.tree.Field.{Field}
use Rattle.fir_check.specs.Types.{Slot, slot, Leaf, leaf, turned_leaf, leaf_level, leaves, flip_level, same, repeats_field, has_flip, with_firsts}
use Rattle.fir_check.specs.Fields.{field_flip, field_name, field_type, flips}
use Rattle.fir_check.proofs.Names.{or_left, or_right}
use Rattle.fir_check.proofs.Unrolled.{fold-UInt, fold-SInt, fold-Reset, fold-Vector}
use Rattle.fir_check.proofs.Bundles.{folded, over_bundle, bundle_flips, any_map}
use Rattle.fir_flat.specs.Shapes.{Shape, ground, clock, empty, field, vector, shape_of, fields_shape, whole, in_field, in_element}
use Rattle.fir_flat.specs.Shapes as flat
use Rattle.fir_flat.proofs.Rolled.{shape-UInt, shape-SInt, shape-Clock, shape-Reset, shape-Bundle, shape-Vector}
use Rattle.net_core.specs.Formed.{width_fits}
use Rattle.flat_shapes.specs.Leaves.{seen, LeavesAgree, narrow, WidthsFit}
use Rattle.flat_shapes.proofs.Forms.{Each, by_form}
use Rattle.flat_shapes.proofs.Shapes.{fields_first}
use Rattle.flat_shapes.proofs.Tests.{never, and_left, and_right}
use Rattle.flat_shapes.proofs.Once.{repeats_inside, once_names, once_inside, once_vector}

-- of each ground part of a type, by its form

pub all_flat : {X Y : Type 0} (P : Y → Type 0) (g : X → List Y) → ((x : X) → All P (g x)) → (xs : List X) → All P (flat_map g xs)
all_flat P g h [] = All-nil P
all_flat P g h (x ∷ xs) = All-append P (g x) (flat_map g xs) (h x) (all_flat P g h xs)

pub all_elements : (P : flat.Leaf → Type 0) (s : Shape) (n : ℕ) → All P (flat.leaves s) → ((k : ℕ) (l : flat.Leaf) → P l → P (in_element k l)) → All P (flat.leaves (vector s n))
all_elements P s n a h =
    all_flat P (λ k. map (in_element k) (flat.leaves s))
    (λ k. All-map P (in_element k) (flat.leaves s) (All-weaker P (λ l. P (in_element k l)) (h k) (flat.leaves s) a)) (range_with_len 0 n)

pub all_field : (P : flat.Leaf → Type 0) (flip : Bool) (name : List ℕ) (s rest : Shape) → All (λ l. P (in_field flip name l)) (flat.leaves s) → All P (flat.leaves rest)
    → All P (flat.leaves (field flip name s rest))
all_field P flip name s rest a b =
    All-append P (map (in_field flip name) (flat.leaves s)) (flat.leaves rest) (All-map P (in_field flip name) (flat.leaves s) a) b

pub all_one : (P : flat.Leaf → Type 0) (signed : Bool) (w : Option ℕ) → P (whole signed w) → All P (flat.leaves (ground signed w))
all_one P signed w h = All-cons P (whole signed w) [] h (All-nil P)

-- what the rules find at no ground part

abbrev pub Misses : (Leaf → Bool) → Shape → Type 0
Misses test s = All (λ l. test (seen l) ≡ false) (flat.leaves s)

abbrev pub Missed : Ty → Type 0
Missed t = repeats_field t ≡ false → (test : Leaf → Bool) → list_any test (leaves t) ≡ false → Misses test (shape_of t)

number_misses : (test : Leaf → Bool) (signed : Bool) (w : Option ℕ) (s : Shape) (ls : List Leaf) → s ≡ ground signed w → ls ≡ leaf w ∷ [] → list_any test ls ≡ false → Misses test s
number_misses test signed w s ls e f h =
    subst (Misses test) (sym e)
    (all_one (λ l. test (seen l) ≡ false) signed w (or_left (test (leaf w)) false (sym (ap (list_any test) f) ∙ h)))

abbrev parts_of : List Field → List Leaf
parts_of fs = flat_map (λ (f : Slot (List Leaf)). map (turned_leaf f.flip) f.of) (map (folded leaves) fs)

fields_missed : (fs : List Field) → Each Missed fs → repeats_inside fs ≡ false → (test : Leaf → Bool) → list_any test (parts_of fs) ≡ false → Misses test (fields_shape fs)
fields_missed [] i r test h = All-nil (λ l. test (seen l) ≡ false)
fields_missed (f ∷ fs) i r test h =
    let own : List Leaf = map (turned_leaf (field_flip f)) (leaves (field_type f)) in
    let e : list_any test own || list_any test (parts_of fs) ≡ false = sym (list_any-append test own (parts_of fs)) ∙ h in
    let a : list_any (λ l. test (turned_leaf (field_flip f) l)) (leaves (field_type f)) ≡ false =
    sym (any_map test (turned_leaf (field_flip f)) (leaves (field_type f))) ∙ or_left (list_any test own) (list_any test (parts_of fs)) e in
    subst (Misses test) (sym (fields_first f fs))
    (all_field (λ l. test (seen l) ≡ false) (field_flip f) (field_name f) (shape_of (field_type f)) (fields_shape fs)
    (i.0 (or_left (repeats_field (field_type f)) (repeats_inside fs) r) (λ l. test (turned_leaf (field_flip f) l)) a)
    (fields_missed fs i.1 (or_right (repeats_field (field_type f)) (repeats_inside fs) r) test (or_right (list_any test own) (list_any test (parts_of fs)) e)))

bundle_missed : (fs : List Field) → Each Missed fs → Missed (ty.Bundle fs)
bundle_missed fs i r test h =
    subst (Misses test) (sym (shape-Bundle fs))
    (fields_missed fs i (once_inside fs r) test
    (sym (ap (list_any test) (over_bundle (List Leaf) leaf_level fs ∙ ap parts_of (once_names fs r))) ∙ h))

abbrev leaves_at : Ty-F (List Leaf) (Slot (List Leaf)) → List Leaf
leaves_at x = leaf_level (with_firsts x)

vector_missed : (of : Ty) (n : ℕ) → Missed of → Missed (ty.Vector of n)
vector_missed of n i r test h =
    subst (Misses test) (sym (shape-Vector of n)) (by n (sym (ap (list_any test) (fold-Vector (List Leaf) (Slot (List Leaf)) leaves_at slot of n)) ∙ h))
  where
    by : (m : ℕ) → list_any test (if m == 0 then [] else leaves of) ≡ false → Misses test (vector (shape_of of) m)
    by zero h = All-nil (λ l. test (seen l) ≡ false)
    by (suc m) h =
        all_elements (λ l. test (seen l) ≡ false) (shape_of of) (suc m)
        (i (once_vector of n r) test (sym (ap (λ b. list_any test (if b then [] else leaves of)) (eqb-suc-zero m)) ∙ h))
        (λ k l e. e)

pub missed : (t : Ty) → Missed t
missed = by_form Missed (record {
  uint = λ w r test h. number_misses test false w (shape_of (ty.UInt w)) (leaves (ty.UInt w)) (shape-UInt w) (fold-UInt (List Leaf) (Slot (List Leaf)) leaves_at slot w) h;
  sint = λ w r test h. number_misses test true w (shape_of (ty.SInt w)) (leaves (ty.SInt w)) (shape-SInt w) (fold-SInt (List Leaf) (Slot (List Leaf)) leaves_at slot w) h;
  clock = λ r test h. subst (Misses test) (sym shape-Clock) (All-nil (λ l. test (seen l) ≡ false));
  reset = λ r test h. number_misses test false (Some 1) (shape_of ty.Reset) (leaves ty.Reset) shape-Reset (fold-Reset (List Leaf) (Slot (List Leaf)) leaves_at slot) h;
  bundle = bundle_missed;
  vector = vector_missed;
})

-- no flips

abbrev pub AllAlong : Shape → Type 0
AllAlong s = All (λ l. l.against ≡ false) (flat.leaves s)

abbrev pub Along : Ty → Type 0
Along t = repeats_field t ≡ false → has_flip t ≡ false → AllAlong (shape_of t)

number_along : (signed : Bool) (w : Option ℕ) (s : Shape) → s ≡ ground signed w → AllAlong s
number_along signed w s e = subst AllAlong (sym e) (all_one (λ l. l.against ≡ false) signed w refl)

not_turned : (flip against : Bool) → flip ≡ false → against ≡ false → not (same flip against) ≡ false
not_turned true against e h = absurd (true≢false e)
not_turned false true e h = absurd (true≢false h)
not_turned false false e h = refl

fields_along : (fs : List Field) → Each Along fs → repeats_inside fs ≡ false → list_any flips fs ≡ false → AllAlong (fields_shape fs)
fields_along [] i r h = All-nil (λ l. l.against ≡ false)
fields_along (f ∷ fs) i r h =
    let e : flips f ≡ false = or_left (flips f) (list_any flips fs) h in
    let a : AllAlong (shape_of (field_type f)) =
    i.0 (or_left (repeats_field (field_type f)) (repeats_inside fs) r) (or_right (field_flip f) (has_flip (field_type f)) e) in
    subst AllAlong (sym (fields_first f fs))
    (all_field (λ l. l.against ≡ false) (field_flip f) (field_name f) (shape_of (field_type f)) (fields_shape fs)
    (All-weaker (λ (l : flat.Leaf). l.against ≡ false) (λ l. not (same (field_flip f) l.against) ≡ false)
    (λ l q. not_turned (field_flip f) l.against (or_left (field_flip f) (has_flip (field_type f)) e) q) (flat.leaves (shape_of (field_type f))) a)
    (fields_along fs i.1 (or_right (repeats_field (field_type f)) (repeats_inside fs) r) (or_right (flips f) (list_any flips fs) h)))

abbrev flip_at : Ty-F Bool (Slot Bool) → Bool
flip_at x = flip_level (with_firsts x)

pub along : (t : Ty) → Along t
along = by_form Along (record {
  uint = λ w r h. number_along false w (shape_of (ty.UInt w)) (shape-UInt w);
  sint = λ w r h. number_along true w (shape_of (ty.SInt w)) (shape-SInt w);
  clock = λ r h. subst AllAlong (sym shape-Clock) (All-nil (λ l. l.against ≡ false));
  reset = λ r h. number_along false (Some 1) (shape_of ty.Reset) shape-Reset;
  bundle = λ fs i r h. subst AllAlong (sym (shape-Bundle fs))
      (fields_along fs i (once_inside fs r) (ap (list_any flips) (sym (once_names fs r)) ∙ sym (bundle_flips fs) ∙ h));
  vector = λ of n i r h. subst AllAlong (sym (shape-Vector of n))
      (all_elements (λ l. l.against ≡ false) (shape_of of) n
      (i (once_vector of n r) (sym (fold-Vector Bool (Slot Bool) flip_at slot of n) ∙ h)) (λ k l e. e));
})

some_width : (output against : Bool) (w : Option ℕ) → (same output against && is_none w) ≡ false → same output against ≡ true → is_some w ≡ true
some_width output against (Some w) h e = refl
some_width output against None h e = never (sym h ∙ ap (λ b. b && true) e)

pub leaves_agree : LeavesAgree
leaves_agree = record {
  none = missed;
  along = along;
  kept = λ t r h. missed t r (λ l. l.against) h;
  sized = λ t output r h. All-weaker (λ (l : flat.Leaf). (same output l.against && is_none l.width) ≡ false) (λ l. same output l.against ≡ true → is_some l.width ≡ true)
      (λ l. some_width output l.against l.width) (flat.leaves (shape_of t)) (missed t r (λ l. same output l.against && l.unsized) h);
}

-- widths

pub all_narrow : (s : Shape) → narrow s ≡ true → All (λ l. width_fits l.width ≡ true) (flat.leaves s)
all_narrow (ground signed width) h = all_one (λ l. width_fits l.width ≡ true) signed width h
all_narrow clock h = All-nil (λ l. width_fits l.width ≡ true)
all_narrow empty h = All-nil (λ l. width_fits l.width ≡ true)
all_narrow (field flip name of rest) h =
    all_field (λ l. width_fits l.width ≡ true) flip name of rest (all_narrow of (and_left (narrow of) (narrow rest) h)) (all_narrow rest (and_right (narrow of) (narrow rest) h))
all_narrow (vector of n) h = all_elements (λ l. width_fits l.width ≡ true) of n (all_narrow of h) (λ k l e. e)

pub widths_fit : WidthsFit
widths_fit = record { fit = all_narrow }

-- by the form of a type
pub narrow-UInt : (w : Option ℕ) → narrow (shape_of (ty.UInt w)) ≡ width_fits w
narrow-UInt w = ap narrow (shape-UInt w)

pub narrow-SInt : (w : Option ℕ) → narrow (shape_of (ty.SInt w)) ≡ width_fits w
narrow-SInt w = ap narrow (shape-SInt w)

pub narrow-Clock : narrow (shape_of ty.Clock) ≡ true
narrow-Clock = ap narrow shape-Clock

pub narrow-Reset : narrow (shape_of ty.Reset) ≡ true
narrow-Reset = ap narrow shape-Reset

pub narrow_fields : (fs : List Field) → narrow (fields_shape fs) ≡ list_all (λ f. narrow (shape_of (field_type f))) fs
narrow_fields [] = refl
narrow_fields (f ∷ fs) = ap narrow (fields_first f fs) ∙ ap (λ b. narrow (shape_of (field_type f)) && b) (narrow_fields fs)

pub narrow-Bundle : (fs : List Field) → narrow (shape_of (ty.Bundle fs)) ≡ list_all (λ f. narrow (shape_of (field_type f))) fs
narrow-Bundle fs = ap narrow (shape-Bundle fs) ∙ narrow_fields fs

pub narrow-Vector : (of : Ty) (n : ℕ) → narrow (shape_of (ty.Vector of n)) ≡ narrow (shape_of of)
narrow-Vector of n = ap narrow (shape-Vector of n)
