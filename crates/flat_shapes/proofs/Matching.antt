-- Each ground part of a type and its counterpart in a type of the same shape.
use Rattle.std.proofs.Common.{ℕ, zero, suc, ◌≡◌, ◌+◌, ◌*◌, ◌<◌, ◌≤◌, ◌∙◌, ◌==◌, Bool, true, false, not, ◌&&◌, Option, None, Some, List, [], ◌∷◌, ◌++◌, length, map, get_or, refl, sym, ap, ap₂, subst, arith, eqb-true}
use Rattle.std.specs.List.{AllZip, range_with_len, flat_map, list_all}
use Rattle.fir_ast.specs.declared.tree.Ty.{Ty}
use Rattle.fir_ast.specs.declared.tree.Ty.TheVariants as ty
use Rattle.fir_ast.specs.declared.tree.Ty.TheOpen.{Ty-F, UInt, SInt, Clock, Reset, Bundle, Vector}
use Rattle.fir_ast.specs.declared.tree.Ty.TheViews.{out-Ty}
use Rattle.fir_ast.specs.declared.tree.Field.{Field}
use Rattle.fir_check.specs.Types.{Slot, slot, same, same_fields, same_vector, same_shape, shape_level, with_firsts, vector_of, is_bundle, bundle_at, fields_of, repeats_field}
use Rattle.fir_check.specs.Fields.{field_flip, field_name, field_type, first_fields, named_slot, has_match, have_matches, have_names}
use Rattle.fir_check.proofs.Names.{or_left, or_right, found_is}
use Rattle.fir_check.proofs.Unrolled.{at-UInt, at-SInt, at-Reset, at-Vector}
use Rattle.fir_check.proofs.Bundles.{folded, over_bundle}
use Rattle.fir_check.proofs.Shapes.{bundle_shape, has_match_named, matches_slot}
use Rattle.fir_flat.specs.Shapes.{Shape, ground, field, vector, shape_of, fields_shape, size, Leaf, leaves, in_field, in_element, field_named, partners}
use Rattle.fir_flat.proofs.LeafCounts.{leaves_counted}
use Rattle.fir_flat.proofs.Rolled.{shape-UInt, shape-SInt, shape-Clock, shape-Reset, shape-Bundle, shape-Vector}
use Rattle.flat_shapes.specs.Grounds.{IsNumber}
use Rattle.flat_shapes.specs.Parts.{StandsIn}
use Rattle.flat_shapes.specs.Matching.{Counterpart, Matched, ShapesMatch}
use Rattle.flat_shapes.proofs.Forms.{Each, by_form, bundle_is}
use Rattle.flat_shapes.proofs.Shapes.{fields_first}
use Rattle.flat_shapes.proofs.Tests.{never, and_left, and_right}
use Rattle.flat_shapes.proofs.Grounds.{unsigned_shape, signed_shape}
use Rattle.flat_shapes.proofs.Once.{repeats_inside, once_names, once_inside, once_vector, once_field, once_element, once_number}
use Rattle.flat_shapes.proofs.Ports.{ports_once}
use Rattle.flat_shapes.proofs.Parts.{Named, named_in, field_stands, element_stands, vector_shape}

-- lists side by side

zip_append : {A B : Type 0} (R : A → B → Type 0) (xs ws : List A) (ys zs : List B) → AllZip R xs ys → AllZip R ws zs → AllZip R (xs ++ ws) (ys ++ zs)
zip_append R [] ws [] zs h k = k
zip_append R [] ws (y ∷ ys) zs h k = absurd h
zip_append R (x ∷ xs) ws [] zs h k = absurd h
zip_append R (x ∷ xs) ws (y ∷ ys) zs h k = (h.0, zip_append R xs ws ys zs h.1 k)

zip_map : {A B C D : Type 0} (R : A → B → Type 0) (S : C → D → Type 0) (f : A → C) (g : B → D) → ((a : A) (b : B) → R a b → S (f a) (g b))
    → (xs : List A) (ys : List B) → AllZip R xs ys → AllZip S (map f xs) (map g ys)
zip_map R S f g s [] [] h = tt
zip_map R S f g s [] (y ∷ ys) h = absurd h
zip_map R S f g s (x ∷ xs) [] h = absurd h
zip_map R S f g s (x ∷ xs) (y ∷ ys) h = (s x y h.0, zip_map R S f g s xs ys h.1)

zip_flat : {A B : Type 0} (R : A → B → Type 0) (g : ℕ → List A) (h : ℕ → List B) (n : ℕ) → ((i : ℕ) → i < n → AllZip R (g i) (h i))
    → (m a : ℕ) → a + m ≤ n → AllZip R (flat_map g (range_with_len a m)) (flat_map h (range_with_len a m))
zip_flat R g h n s zero a l = tt
zip_flat R g h n s (suc m) a l =
    zip_append R (g a) (flat_map g (range_with_len (a + 1) m)) (h a) (flat_map h (range_with_len (a + 1) m))
    (s a (omega (arith, l))) (zip_flat R g h n s m (a + 1) (omega (arith, l)))

zip_at : {A B : Type 0} (R : A → B → Type 0) (xs : List A) (ys : List B) (k : ℕ) (d : A) (e : B) → AllZip R xs ys → k < length xs → R (get_or xs k d) (get_or ys k e)
zip_at R [] ys k d e h l = absurd (omega (arith, l))
zip_at R (x ∷ xs) [] k d e h l = absurd h
zip_at R (x ∷ xs) (y ∷ ys) zero d e h l = h.0
zip_at R (x ∷ xs) (y ∷ ys) (suc k) d e h l = zip_at R xs ys k d e h.1 (omega (arith, l))

-- shapes

abbrev pub Pairs : Shape → Shape → Type 0
Pairs s u = AllZip (Counterpart u) (leaves s) (partners s u)

pub matched_by : (s u : Shape) → Pairs s u → Matched s u
matched_by s u p = record {
  each = λ k d h. zip_at (Counterpart u) (leaves s) (partners s u) k d 0 p (let a : length (leaves s) ≡ size s = leaves_counted s in omega (arith, a, h));
  along = p;
}

ground_pairs : (signed : Bool) (v w : Option ℕ) → Pairs (ground signed v) (ground signed w)
ground_pairs signed v w = (record { within = omega arith; signed = λ d. refl; against = λ d. refl }, tt)

-- counterparts within a part are counterparts within the whole
counterpart_in : (part u : Shape) (before : ℕ) (into from : Leaf → Leaf) → StandsIn part u before from
    → ((l m : Leaf) → l.signed ≡ m.signed → (into l).signed ≡ (from m).signed)
    → ((l m : Leaf) → l.against ≡ m.against → (into l).against ≡ (from m).against)
    → (l : Leaf) (p : ℕ) → Counterpart part l p → Counterpart u (into l) (before + p)
counterpart_in part u before into from st signs ways l p c = record {
  within = omega (arith, st.fits, c.within);
  signed = λ d. signs l (get_or (leaves part) p d) (c.signed d) ∙ sym (ap (λ m. m.signed) (st.at_or p d c.within));
  against = λ d. ways l (get_or (leaves part) p d) (c.against d) ∙ sym (ap (λ m. m.against) (st.at_or p d c.within));
}

same_is : (a b : Bool) → same a b ≡ true → a ≡ b
same_is true true e = refl
same_is true false e = sym e
same_is false true e = e
same_is false false e = refl

abbrev field_of : List ℕ → Shape → Shape
field_of name u = (field_named name u).of

field_pairs : (flip : Bool) (name : List ℕ) (s rest u : Shape) → flip ≡ (field_named name u).flip
    → StandsIn (field_of name u) u (field_named name u).before (in_field (field_named name u).flip name)
    → Pairs s (field_of name u) → Pairs rest u → Pairs (field flip name s rest) u
field_pairs flip name s rest u e st p q =
    zip_append (Counterpart u) (map (in_field flip name) (leaves s)) (leaves rest)
    (map (λ k. (field_named name u).before + k) (partners s (field_of name u))) (partners rest u)
    (zip_map (Counterpart (field_of name u)) (Counterpart u) (in_field flip name) (λ k. (field_named name u).before + k)
    (counterpart_in (field_of name u) u (field_named name u).before (in_field flip name) (in_field (field_named name u).flip name) st
    (λ l m h. h) (λ l m h. ap₂ (λ a b. not (same a b)) e h))
    (leaves s) (partners s (field_of name u)) p)
    q

vector_pairs : (s u : Shape) (n : ℕ) → Pairs s u → Pairs (vector s n) (vector u n)
vector_pairs s u n p =
    zip_flat (Counterpart (vector u n)) (λ k. map (in_element k) (leaves s)) (λ i. map (λ k. i * size u + k) (partners s u)) n
    (λ i h. zip_map (Counterpart u) (Counterpart (vector u n)) (in_element i) (λ k. i * size u + k)
    (counterpart_in u (vector u n) (i * size u) (in_element i) (in_element i) (element_stands (vector u n) i h) (λ l m e. e) (λ l m e. e))
    (leaves s) (partners s u) p)
    n 0 (omega arith)

-- types

abbrev pub Matches : Ty → Type 0
Matches t = repeats_field t ≡ false → (u : Ty) → same_shape t u ≡ true → Pairs (shape_of t) (shape_of u)

number_pairs : (signed : Bool) (w : Option ℕ) (s u : Shape) → s ≡ ground signed w → IsNumber signed u → Pairs s u
number_pairs signed w s u e n =
    subst (λ x. Pairs x u) (sym e) (subst (λ x. Pairs (ground signed w) x) (sym n.1) (ground_pairs signed w n.0))

-- what is found has the test
pub found : {X : Type 0} (Q : X → Bool) (r : Option X) → found_is Q r ≡ true → (x : X) × (r ≡ Some x) × (Q x ≡ true)
found Q None h = never h
found Q (Some x) h = (x, refl, h)

fields_pairs : (fs gs : List Field) → Each Matches fs → list_all (has_match gs) fs ≡ true → repeats_inside fs ≡ false → Pairs (fields_shape fs) (fields_shape gs)
fields_pairs [] gs i h r = tt
fields_pairs (f ∷ fs) gs i h r =
    let a : found_is (matches_slot f) (named_slot (field_name f) gs) ≡ true =
    sym (has_match_named gs f) ∙ and_left (has_match gs f) (list_all (has_match gs) fs) h in
    let x : (x : Slot Ty) × (named_slot (field_name f) gs ≡ Some x) × (matches_slot f x ≡ true) = found (matches_slot f) (named_slot (field_name f) gs) a in
    let n : Named (field_name f) x.0 (fields_shape gs) = named_in (field_name f) gs x.0 x.1 in
    let flips : field_flip f ≡ x.0.flip = same_is (field_flip f) x.0.flip (and_left (same (field_flip f) x.0.flip) (same_shape (field_type f) x.0.of) x.2) in
    let shapes : same_shape (field_type f) x.0.of ≡ true = and_right (same (field_flip f) x.0.flip) (same_shape (field_type f) x.0.of) x.2 in
    let p : Pairs (shape_of (field_type f)) (shape_of x.0.of) = i.0 (or_left (repeats_field (field_type f)) (repeats_inside fs) r) x.0.of shapes in
    let q : Pairs (shape_of (field_type f)) (field_of (field_name f) (fields_shape gs)) = subst (Pairs (shape_of (field_type f))) (sym n.of) p in
    let t : Pairs (fields_shape fs) (fields_shape gs) =
    fields_pairs fs gs i.1 (and_right (has_match gs f) (list_all (has_match gs) fs) h) (or_right (repeats_field (field_type f)) (repeats_inside fs) r) in
    subst (λ s. Pairs s (fields_shape gs)) (sym (fields_first f fs))
    (field_pairs (field_flip f) (field_name f) (shape_of (field_type f)) (fields_shape fs) (fields_shape gs) (flips ∙ sym n.flip)
    (field_stands (field_name f) (fields_shape gs) n.has) q t)

bundle_pairs : (fs : List Field) → Each Matches fs → Matches (ty.Bundle fs)
bundle_pairs fs i r u h = by (out-Ty u) refl
  where
    is_one : is_bundle u ≡ true
    is_one =
        and_left (is_bundle u) (same_fields (map (folded same_shape) (first_fields fs)) (fields_of u))
        (sym (ap (λ (f : Ty → Bool). f u) (over_bundle (Ty → Bool) shape_level fs)) ∙ h)

    by : (x : Ty-F Ty Field) → out-Ty u ≡ x → Pairs (shape_of (ty.Bundle fs)) (shape_of u)
    by (Bundle gs) e =
        let b : have_matches fs gs && have_names gs fs ≡ true = sym (bundle_shape fs gs) ∙ ap (same_shape (ty.Bundle fs)) (sym (bundle_is u gs e)) ∙ h in
        let m : list_all (has_match gs) fs ≡ true = ap (list_all (has_match gs)) (sym (once_names fs r)) ∙ and_left (have_matches fs gs) (have_names gs fs) b in
        subst (λ s. Pairs s (shape_of u)) (sym (shape-Bundle fs))
        (subst (λ s. Pairs (fields_shape fs) s) (sym (ap shape_of (bundle_is u gs e) ∙ shape-Bundle gs))
        (fields_pairs fs gs i m (once_inside fs r)))
    by (UInt w) e = never (sym (ap bundle_at e) ∙ is_one)
    by (SInt w) e = never (sym (ap bundle_at e) ∙ is_one)
    by Clock e = never (sym (ap bundle_at e) ∙ is_one)
    by Reset e = never (sym (ap bundle_at e) ∙ is_one)
    by (Vector of n) e = never (sym (ap bundle_at e) ∙ is_one)

abbrev level : Ty-F (Ty → Bool) (Slot (Ty → Bool)) → Ty → Bool
level x = shape_level (with_firsts x)

array_pairs : (of : Ty) (n : ℕ) → Matches of → Matches (ty.Vector of n)
array_pairs of n i r u h = by (vector_of u) refl (sym (at-Vector Ty Bool (Slot (Ty → Bool)) level slot of n u) ∙ h)
  where
    by : (v : Option (Ty × ℕ)) → vector_of u ≡ v → same_vector (same_shape of) n v ≡ true → Pairs (shape_of (ty.Vector of n)) (shape_of u)
    by None e h = never h
    by (Some v) e h =
        let l : n ≡ v.1 = eqb-true n v.1 (and_left (n == v.1) (same_shape of v.0) h) in
        let p : Pairs (shape_of of) (shape_of v.0) = i (once_vector of n r) v.0 (and_right (n == v.1) (same_shape of v.0) h) in
        subst (λ s. Pairs s (shape_of u)) (sym (shape-Vector of n))
        (subst (λ s. Pairs (vector (shape_of of) n) s) (sym (vector_shape u v.0 v.1 e ∙ ap (vector (shape_of v.0)) (sym l)))
        (vector_pairs (shape_of of) (shape_of v.0) n p))

pub pairs : (t : Ty) → Matches t
pairs = by_form Matches (record {
  uint = λ w r u h. number_pairs false w (shape_of (ty.UInt w)) (shape_of u) (shape-UInt w) (unsigned_shape u (sym (at-UInt Ty Bool (Slot (Ty → Bool)) level slot w u) ∙ h));
  sint = λ w r u h. number_pairs true w (shape_of (ty.SInt w)) (shape_of u) (shape-SInt w) (signed_shape u (sym (at-SInt Ty Bool (Slot (Ty → Bool)) level slot w u) ∙ h));
  clock = λ r u h. subst (λ s. Pairs s (shape_of u)) (sym shape-Clock) tt;
  reset = λ r u h. number_pairs false (Some 1) (shape_of ty.Reset) (shape_of u) shape-Reset (unsigned_shape u (sym (at-Reset Ty Bool (Slot (Ty → Bool)) level slot u) ∙ h));
  bundle = bundle_pairs;
  vector = array_pairs;
})

pub matched : (t u : Ty) → repeats_field t ≡ false → same_shape t u ≡ true → Matched (shape_of t) (shape_of u)
matched t u r h = matched_by (shape_of t) (shape_of u) (pairs t r u h)

pub shapes_match : ShapesMatch
shapes_match = record { matched = matched; fields = once_field; elements = once_element; numbers = once_number; instances = ports_once }
