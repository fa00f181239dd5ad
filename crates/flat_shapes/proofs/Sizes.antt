-- Types of one shape have as many ground parts: their fields have the same names, each once, and sizes by name.
use Rattle.std.proofs.Common.{ℕ, ◌≡◌, ◌+◌, ◌*◌, ◌≤◌, ◌∙◌, ◌==◌, Bool, true, false, ◌&&◌, ◌||◌, cond, Option, None, Some, List, [], ◌∷◌, map, refl, sym, ap, ap₂, arith, eqb-true, bytes_eq}
use Rattle.std.specs.List.{list_all}
use Rattle.fir_ast.specs.declared.tree.Ty.{Ty}
use Rattle.fir_ast.specs.declared.tree.Ty.TheVariants as ty
use Rattle.fir_ast.specs.declared.tree.Ty.TheOpen.{Ty-F, UInt, SInt, Clock, Reset, Bundle, Vector}
use Rattle.fir_ast.specs.declared.tree.Ty.TheViews.{out-Ty}
use Rattle.fir_ast.specs.declared.tree.Field.{Field}
use Rattle.fir_check.specs.Names.{is_among, repeated}
use Rattle.fir_check.specs.Types.{Slot, slot, same, same_vector, same_shape, shape_level, with_firsts, vector_of, is_bundle, bundle_at, same_fields, fields_of, repeats_field}
use Rattle.fir_check.specs.Fields.{field_flip, field_name, field_type, first_fields, named_slot, has_match, have_matches, has_name_in, have_names}
use Rattle.fir_check.proofs.Names.{bytes_self, bytes_same, bytes_turned, or_left, or_right, found_is}
use Rattle.fir_check.proofs.Unrolled.{at-UInt, at-SInt, at-Clock, at-Reset, at-Vector}
use Rattle.fir_check.proofs.Bundles.{folded, over_bundle, any_map}
use Rattle.fir_check.proofs.Shapes.{bundle_shape, has_match_named, matches_slot}
use Rattle.fir_flat.specs.Shapes.{Shape, shape_of, fields_shape, size, field_named}
use Rattle.fir_flat.proofs.Rolled.{shape-UInt, shape-SInt, shape-Clock, shape-Reset, shape-Bundle, shape-Vector}
use Rattle.flat_shapes.specs.Grounds.{IsNumber}
use Rattle.flat_shapes.specs.Parts.{has_field}
use Rattle.flat_shapes.specs.Sizes.{SizesAgree}
use Rattle.flat_shapes.proofs.Tests.{never, and_left, and_right}
use Rattle.flat_shapes.proofs.Forms.{Each, by_form, bundle_is}
use Rattle.flat_shapes.proofs.Shapes.{fields_first}
use Rattle.flat_shapes.proofs.Apart.{Every}
use Rattle.flat_shapes.proofs.Later.{repeats_past, kept_first, none_later}
use Rattle.flat_shapes.proofs.Grounds.{clock_shape, unsigned_shape, signed_shape}
use Rattle.flat_shapes.proofs.Once.{repeats_inside, once_names, once_inside, once_vector, once_list, once_named, once_element}
use Rattle.flat_shapes.proofs.Parts.{Named, named_in, vector_shape, place}
use Rattle.flat_shapes.proofs.Matching.{found}

-- sums over names, each of which stands once

abbrev weigh : (List ℕ → ℕ) → List (List ℕ) → ℕ
weigh w [] = 0
weigh w (n ∷ ns) = w n + weigh w ns

abbrev Distinct : List (List ℕ) → Type 0
Distinct [] = Unit {0}
Distinct (n ∷ ns) = (is_among n ns ≡ false) × Distinct ns

abbrev without : List ℕ → List (List ℕ) → List (List ℕ)
without n [] = []
without n (m ∷ ms) = cond (bytes_eq m n) ms (m ∷ without n ms)

weigh-without : (w : List ℕ → ℕ) (n : List ℕ) (ms : List (List ℕ)) → is_among n ms ≡ true → weigh w ms ≡ w n + weigh w (without n ms)
weigh-without w n [] h = never h
weigh-without w n (m ∷ ms) h = by (bytes_eq m n) refl h (weigh-without w n ms)
  where
    by : (b : Bool) → bytes_eq m n ≡ b → b || is_among n ms ≡ true → (is_among n ms ≡ true → weigh w ms ≡ w n + weigh w (without n ms))
        → w m + weigh w ms ≡ w n + weigh w (cond b ms (m ∷ without n ms))
    by true e h i = ap (λ x. w x + weigh w ms) (bytes_same m n e)
    by false e h i = let r : weigh w ms ≡ w n + weigh w (without n ms) = i h in omega (arith, r)

still_among : (n k : List ℕ) (ms : List (List ℕ)) → bytes_eq k n ≡ false → is_among k ms ≡ true → is_among k (without n ms) ≡ true
still_among n k [] d h = h
still_among n k (m ∷ ms) d h = by (bytes_eq m n) refl h (still_among n k ms d)
  where
    by : (b : Bool) → bytes_eq m n ≡ b → bytes_eq m k || is_among k ms ≡ true → (is_among k ms ≡ true → is_among k (without n ms) ≡ true)
        → is_among k (cond b ms (m ∷ without n ms)) ≡ true
    by true e h i = sym (ap (λ b. b || is_among k ms) (bytes_turned m k ∙ ap (bytes_eq k) (bytes_same m n e) ∙ d)) ∙ h
    by false e h i = first (bytes_eq m k) h
      where
        first : (c : Bool) → c || is_among k ms ≡ true → c || is_among k (without n ms) ≡ true
        first true h = refl
        first false h = i h

abbrev Among : List (List ℕ) → List ℕ → Type 0
Among ms n = is_among n ms ≡ true

others_among : (n : List ℕ) (ns ms : List (List ℕ)) → is_among n ns ≡ false → Every (Among ms) ns → Every (Among (without n ms)) ns
others_among n [] ms d e = tt
others_among n (k ∷ ns) ms d e =
    (still_among n k ms (or_left (bytes_eq k n) (is_among n ns) d) e.0, others_among n ns ms (or_right (bytes_eq k n) (is_among n ns) d) e.1)

weigh-le : (w : List ℕ → ℕ) (ns ms : List (List ℕ)) → Distinct ns → Every (Among ms) ns → weigh w ns ≤ weigh w ms
weigh-le w [] ms d e = omega arith
weigh-le w (n ∷ ns) ms d e =
    let r : weigh w ms ≡ w n + weigh w (without n ms) = weigh-without w n ms e.0 in
    let i : weigh w ns ≤ weigh w (without n ms) = weigh-le w ns (without n ms) d.1 (others_among n ns ms d.0 e.1) in
    omega (arith, r, i)

-- fields

distinct_names : (e : List (List ℕ)) (fs : List Field) → repeats_past e fs ≡ false → Distinct (map field_name fs)
distinct_names e [] h = tt
distinct_names e (f ∷ fs) h =
    let k : (is_among (field_name f) e ≡ false) × (repeats_past (field_name f ∷ e) fs ≡ false) =
    kept_first (is_among (field_name f) e) f (repeated field_name (field_name f ∷ e) fs) h in (
      none_later (field_name f) (field_name f ∷ e) fs (ap (λ b. b || is_among (field_name f) e) (bytes_self (field_name f))) k.1,
      distinct_names (field_name f ∷ e) fs k.1,
    )

field_among : (n : List ℕ) (fs : List Field) → has_field n (fields_shape fs) ≡ is_among n (map field_name fs)
field_among n [] = refl
field_among n (f ∷ fs) = ap (has_field n) (fields_first f fs) ∙ ap (λ b. bytes_eq (field_name f) n || b) (field_among n fs)

-- the size of a field, by its name
abbrev named_size : Shape → List ℕ → ℕ
named_size s n = size (field_named n s).of

first_size : (n : List ℕ) (f : Field) (fs : List Field) (b : Bool) → bytes_eq (field_name f) n ≡ b
    → named_size (fields_shape (f ∷ fs)) n ≡ cond b (size (shape_of (field_type f))) (named_size (fields_shape fs) n)
first_size n f fs b e = ap (λ s. named_size s n) (fields_first f fs) ∙ by (bytes_eq (field_name f) n) b e
  where
    by : (c b : Bool) → c ≡ b
        → size (place c (field_flip f) (shape_of (field_type f)) (field_named n (fields_shape fs))).of
        ≡ cond b (size (shape_of (field_type f))) (named_size (fields_shape fs) n)
    by true true e = refl
    by true false e = never (sym e)
    by false true e = never e
    by false false e = refl

weigh-same : (v w : List ℕ → ℕ) (ns : List (List ℕ)) → Every (λ n. v n ≡ w n) ns → weigh v ns ≡ weigh w ns
weigh-same v w [] e = refl
weigh-same v w (n ∷ ns) e = ap₂ (λ a b. a + b) e.0 (weigh-same v w ns e.1)

unlike_first : (f : Field) (fs : List Field) (ns : List (List ℕ)) → is_among (field_name f) ns ≡ false
    → Every (λ n. named_size (fields_shape (f ∷ fs)) n ≡ named_size (fields_shape fs) n) ns
unlike_first f fs [] d = tt
unlike_first f fs (n ∷ ns) d = (
  first_size n f fs false (bytes_turned (field_name f) n ∙ or_left (bytes_eq n (field_name f)) (is_among (field_name f) ns) d),
  unlike_first f fs ns (or_right (bytes_eq n (field_name f)) (is_among (field_name f) ns) d),
)

-- a bundle's size, by its own names
own_size : (gs : List Field) → Distinct (map field_name gs) → size (fields_shape gs) ≡ weigh (named_size (fields_shape gs)) (map field_name gs)
own_size [] d = refl
own_size (g ∷ gs) d =
    let own : named_size (fields_shape (g ∷ gs)) (field_name g) ≡ size (shape_of (field_type g)) = first_size (field_name g) g gs true (bytes_self (field_name g)) in
    let more : weigh (named_size (fields_shape (g ∷ gs))) (map field_name gs) ≡ weigh (named_size (fields_shape gs)) (map field_name gs)
    = weigh-same (named_size (fields_shape (g ∷ gs))) (named_size (fields_shape gs)) (map field_name gs) (unlike_first g gs (map field_name gs) d.0) in
    ap size (fields_first g gs) ∙ ap₂ (λ a b. a + b) (sym own) (own_size gs d.1 ∙ sym more)

-- types

abbrev Sized : Ty → Type 0
Sized t = repeats_field t ≡ false → (u : Ty) → repeats_field u ≡ false → same_shape t u ≡ true → size (shape_of t) ≡ size (shape_of u)

number_size : (signed : Bool) (s u : Shape) → IsNumber signed s → IsNumber signed u → size s ≡ size u
number_size signed s u n m = ap size n.1 ∙ sym (ap size m.1)

-- what each field of the one finds in the other
record Fields (fs gs : List Field) : Type 0 where
  among : Every (Among (map field_name gs)) (map field_name fs)
  sizes : size (fields_shape fs) ≡ weigh (named_size (fields_shape gs)) (map field_name fs)

fields_sized : (fs gs : List Field) → Each Sized fs → list_all (has_match gs) fs ≡ true → repeats_inside fs ≡ false
    → ((x : Slot Ty) (n : List ℕ) → named_slot n gs ≡ Some x → repeats_field x.of ≡ false) → Fields fs gs
fields_sized [] gs i h r o = record { among = tt; sizes = refl }
fields_sized (f ∷ fs) gs i h r o =
    let a : found_is (matches_slot f) (named_slot (field_name f) gs) ≡ true =
    sym (has_match_named gs f) ∙ and_left (has_match gs f) (list_all (has_match gs) fs) h in
    let x : (x : Slot Ty) × (named_slot (field_name f) gs ≡ Some x) × (matches_slot f x ≡ true) = found (matches_slot f) (named_slot (field_name f) gs) a in
    let n : Named (field_name f) x.0 (fields_shape gs) = named_in (field_name f) gs x.0 x.1 in
    let shapes : same_shape (field_type f) x.0.of ≡ true = and_right (same (field_flip f) x.0.flip) (same_shape (field_type f) x.0.of) x.2 in
    let own : size (shape_of (field_type f)) ≡ size (shape_of x.0.of) =
    i.0 (or_left (repeats_field (field_type f)) (repeats_inside fs) r) x.0.of (o x.0 (field_name f) x.1) shapes in
    let t : Fields fs gs =
    fields_sized fs gs i.1 (and_right (has_match gs f) (list_all (has_match gs) fs) h) (or_right (repeats_field (field_type f)) (repeats_inside fs) r) o in
    record {
      among = (sym (field_among (field_name f) gs) ∙ n.has, t.among);
      sizes = ap size (fields_first f fs) ∙ ap₂ (λ a b. a + b) (own ∙ ap size (sym n.of)) t.sizes;
    }

names_among : (fs gs : List Field) → have_names gs fs ≡ true → Every (Among (map field_name fs)) (map field_name gs)
names_among fs [] h = tt
names_among fs (g ∷ gs) h = (
  any_map (λ n. bytes_eq n (field_name g)) field_name fs ∙ and_left (has_name_in fs g) (list_all (has_name_in fs) gs) h,
  names_among fs gs (and_right (has_name_in fs g) (list_all (has_name_in fs) gs) h),
)

bundle_sized : (fs : List Field) → Each Sized fs → Sized (ty.Bundle fs)
bundle_sized fs i r u q h = by (out-Ty u) refl
  where
    is_one : is_bundle u ≡ true
    is_one =
        and_left (is_bundle u) (same_fields (map (folded same_shape) (first_fields fs)) (fields_of u))
        (sym (ap (λ (f : Ty → Bool). f u) (over_bundle (Ty → Bool) shape_level fs)) ∙ h)

    by : (x : Ty-F Ty Field) → out-Ty u ≡ x → size (shape_of (ty.Bundle fs)) ≡ size (shape_of u)
    by (Bundle gs) e =
        let b : have_matches fs gs && have_names gs fs ≡ true = sym (bundle_shape fs gs) ∙ ap (same_shape (ty.Bundle fs)) (sym (bundle_is u gs e)) ∙ h in
        let m : list_all (has_match gs) fs ≡ true = ap (list_all (has_match gs)) (sym (once_names fs r)) ∙ and_left (have_matches fs gs) (have_names gs fs) b in
        let p : repeats_field (ty.Bundle gs) ≡ false = ap repeats_field (sym (bundle_is u gs e)) ∙ q in
        let s : Fields fs gs = fields_sized fs gs i m (once_inside fs r) (λ x n k. once_named n gs x (once_inside gs p) k) in
        let w : List ℕ → ℕ = named_size (fields_shape gs) in
        let d : Distinct (map field_name gs) = distinct_names [] gs (once_list gs p) in
        let l : weigh w (map field_name fs) ≤ weigh w (map field_name gs) =
        weigh-le w (map field_name fs) (map field_name gs) (distinct_names [] fs (once_list fs r)) s.among in
        let k : weigh w (map field_name gs) ≤ weigh w (map field_name fs) =
        weigh-le w (map field_name gs) (map field_name fs) d (names_among fs gs (and_right (have_matches fs gs) (have_names gs fs) b)) in
        let z : weigh w (map field_name fs) ≡ weigh w (map field_name gs) = omega (arith, l, k) in
        ap size (shape-Bundle fs) ∙ s.sizes ∙ z ∙ sym (own_size gs d) ∙ sym (ap size (ap shape_of (bundle_is u gs e) ∙ shape-Bundle gs))
    by (UInt w) e = never (sym (ap bundle_at e) ∙ is_one)
    by (SInt w) e = never (sym (ap bundle_at e) ∙ is_one)
    by Clock e = never (sym (ap bundle_at e) ∙ is_one)
    by Reset e = never (sym (ap bundle_at e) ∙ is_one)
    by (Vector of n) e = never (sym (ap bundle_at e) ∙ is_one)

abbrev level : Ty-F (Ty → Bool) (Slot (Ty → Bool)) → Ty → Bool
level x = shape_level (with_firsts x)

array_sized : (of : Ty) (n : ℕ) → Sized of → Sized (ty.Vector of n)
array_sized of n i r u q h = by (vector_of u) refl (sym (at-Vector Ty Bool (Slot (Ty → Bool)) level slot of n u) ∙ h)
  where
    by : (v : Option (Ty × ℕ)) → vector_of u ≡ v → same_vector (same_shape of) n v ≡ true → size (shape_of (ty.Vector of n)) ≡ size (shape_of u)
    by None e h = never h
    by (Some v) e h =
        let l : n ≡ v.1 = eqb-true n v.1 (and_left (n == v.1) (same_shape of v.0) h) in
        let s : size (shape_of of) ≡ size (shape_of v.0) =
        i (once_vector of n r) v.0 (once_element u v.0 v.1 q e) (and_right (n == v.1) (same_shape of v.0) h) in
        ap size (shape-Vector of n) ∙ ap₂ (λ a b. a * b) l s ∙ sym (ap size (vector_shape u v.0 v.1 e))

pub sized : (t : Ty) → Sized t
sized = by_form Sized (record {
  uint = λ w r u q h. number_size false (shape_of (ty.UInt w)) (shape_of u) (w, shape-UInt w) (unsigned_shape u (sym (at-UInt Ty Bool (Slot (Ty → Bool)) level slot w u) ∙ h));
  sint = λ w r u q h. number_size true (shape_of (ty.SInt w)) (shape_of u) (w, shape-SInt w) (signed_shape u (sym (at-SInt Ty Bool (Slot (Ty → Bool)) level slot w u) ∙ h));
  clock = λ r u q h. ap size shape-Clock ∙ sym (ap size (clock_shape u (sym (at-Clock Ty Bool (Slot (Ty → Bool)) level slot u) ∙ h)));
  reset = λ r u q h. number_size false (shape_of ty.Reset) (shape_of u) (Some 1, shape-Reset) (unsigned_shape u (sym (at-Reset Ty Bool (Slot (Ty → Bool)) level slot u) ∙ h));
  bundle = bundle_sized;
  vector = array_sized;
})

pub sizes_agree : SizesAgree
sizes_agree = record { sizes = λ t u r q h. sized t r u q h }
