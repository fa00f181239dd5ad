-- A comparison of the shapes of types without repeated names goes both ways.
use Rattle.std.proofs.Common.{ℕ, suc, ◌≡◌, ◌∙◌, ◌==◌, Bool, true, false, not, ◌&&◌, ◌||◌, List, [], ◌∷◌, length, map, refl, sym, ap, subst, bytes_eq, ◌⊎◌, inl, inr, ⊎_elim, eqb-true, eq-eqb}
use Rattle.std.specs.List.{list_any, list_all}
use Rattle.fir_ast.specs.declared.tree.Ty.{Ty}
use Rattle.fir_ast.specs.declared.tree.Ty.TheVariants as ty
use Rattle.fir_ast.specs.declared.tree.Ty.TheOpen.{Ty-F, UInt, SInt, Clock, Reset, Bundle, Vector}
use Rattle.fir_ast.specs.declared.tree.Ty.TheViews.{out-Ty}
use Rattle.fir_ast.specs.declared.tree.Field.{Field}
use Rattle.fir_check.specs.Names.{is_among, kept, repeated, seconds}
use Rattle.fir_check.specs.Types.{Slot, slot, repeats_field, same, same_shape, shape_level, with_firsts, is_bundle, bundle_at, is_unsigned, unsigned_at, is_signed, signed_at, is_clock, clock_at, vector_of, vector_at, same_vector, same_fields, fields_of}
use Rattle.fir_check.specs.Fields.{field_flip, field_name, field_type, first_fields, repeats_name, matches, has_match, have_matches, has_name_in, have_names}
use Rattle.fir_check.proofs.Names.{bytes_same, bytes_self, bytes_turned, or_left, or_right, or_true}
use Rattle.fir_check.proofs.Bundles.{folded, over_bundle}
use Rattle.fir_check.proofs.Shapes.{bundle_shape}
use Rattle.fir_check.proofs.Unrolled.{at-UInt, at-SInt, at-Clock, at-Reset, at-Vector, out-UInt, out-SInt, out-Clock, out-Reset, out-Vector}
use Rattle.flat_shapes.proofs.Tests.{never}
use Rattle.flat_shapes.proofs.Forms.{Each, by_form, bundle_is, vector_is, rolled}
use Rattle.flat_shapes.proofs.Once.{once_names, once_list, once_inside, once_vector}
use Rattle.fir_formed.proofs.Tests.{and_left, and_right, and_both}
use Rattle.fir_formed.proofs.Given.{Turned}
use Rattle.fir_ast.specs.declared.tree.Ty.TheVariants.{rolls-UInt, rolls-Reset, rolls-SInt, rolls-Clock}
use Rattle.std.proofs.Math.Dec.{eqb-suc-zero}

-- items of lists

abbrev In : {X : Type 0} → X → List X → Type 0
In x [] = ⊥
In x (y ∷ ys) = (x ≡ y) ⊎ In x ys

record Some_of {X : Type 0} (P : X → Bool) (xs : List X) : Type 0 where
  item : X
  among : In item xs
  holds : P item ≡ true

some_of : {X : Type 0} (P : X → Bool) (xs : List X) → list_any P xs ≡ true → Some_of P xs
some_of P [] e = cc
some_of P (x ∷ xs) e = step (P x) refl e (some_of P xs)
  where
    step : (b : Bool) → P x ≡ b → (b || list_any P xs) ≡ true → (list_any P xs ≡ true → Some_of P xs) → Some_of P (x ∷ xs)
    step true q k r = record { item = x; among = inl refl; holds = q }
    step false q k r = let s : Some_of P xs = r k in record { item = s.item; among = inr s.among; holds = s.holds }

any_of : {X : Type 0} (P : X → Bool) (xs : List X) (x : X) → In x xs → P x ≡ true → list_any P xs ≡ true
any_of P [] x i e = absurd i
any_of P (y ∷ ys) x i e =
    ⊎_elim (λ q. ap (λ z. P z || list_any P ys) (sym q) ∙ ap (λ b. b || list_any P ys) e) (λ j. ap (λ b. P y || b) (any_of P ys x j e) ∙ or_true (P y)) i

all_at : {X : Type 0} (P : X → Bool) (xs : List X) (x : X) → list_all P xs ≡ true → In x xs → P x ≡ true
all_at P [] x e i = absurd i
all_at P (y ∷ ys) x e i = ⊎_elim (λ q. ap P q ∙ and_left (P y) (list_all P ys) e) (λ j. all_at P ys x (and_right (P y) (list_all P ys) e) j) i

all_of : {X : Type 0} (P : X → Bool) (xs : List X) → ((x : X) → In x xs → P x ≡ true) → list_all P xs ≡ true
all_of P [] h = refl
all_of P (x ∷ xs) h = and_both (P x) (list_all P xs) (h x (inl refl)) (all_of P xs (λ y i. h y (inr i)))

none_at : {X : Type 0} (P : X → Bool) (xs : List X) (x : X) → list_any P xs ≡ false → In x xs → P x ≡ false
none_at P [] x e i = absurd i
none_at P (y ∷ ys) x e i = ⊎_elim (λ q. ap P q ∙ or_left (P y) (list_any P ys) e) (λ j. none_at P ys x (or_right (P y) (list_any P ys) e) j) i

each_in : (P : Ty → Type 0) (fs : List Field) (f : Field) → Each P fs → In f fs → P (field_type f)
each_in P [] f h i = absurd i
each_in P (g ∷ fs) f h i = ⊎_elim (λ q. subst (λ z. P (field_type z)) (sym q) h.0) (λ j. each_in P fs f h.1 j) i

-- names that none has twice

record Apart (earlier : List (List ℕ)) (f : Field) (fs : List Field) : Type 0 where
  here : is_among (field_name f) earlier ≡ false
  rest : repeated field_name (field_name f ∷ earlier) fs ≡ []

apart : (earlier : List (List ℕ)) (f : Field) (fs : List Field) → repeated field_name earlier (f ∷ fs) ≡ [] → Apart earlier f fs
apart earlier f fs e = step (is_among (field_name f) earlier) refl e
  where
    step : (b : Bool) → is_among (field_name f) earlier ≡ b → kept b f (repeated field_name (field_name f ∷ earlier) fs) ≡ [] → Apart earlier f fs
    step true q k = cc
    step false q k = record { here = q; rest = k }

not_earlier : (earlier : List (List ℕ)) (fs : List Field) (g : Field) → repeated field_name earlier fs ≡ [] → In g fs → is_among (field_name g) earlier ≡ false
not_earlier earlier [] g e i = absurd i
not_earlier earlier (f ∷ fs) g e i =
    let a : Apart earlier f fs = apart earlier f fs e in
    ⊎_elim (λ q. ap (λ z. is_among (field_name z) earlier) q ∙ a.here)
    (λ j. or_right (bytes_eq (field_name f) (field_name g)) (is_among (field_name g) earlier) (not_earlier (field_name f ∷ earlier) fs g a.rest j)) i

-- equal names are one field's
one_field : (earlier : List (List ℕ)) (fs : List Field) (g h : Field) → repeated field_name earlier fs ≡ [] → In g fs → In h fs → field_name g ≡ field_name h → g ≡ h
one_field earlier [] g h e i j s = absurd i
one_field earlier (f ∷ fs) g h e i j s =
    ⊎_elim (λ p. ⊎_elim (λ q. p ∙ sym q) (λ q. absurd (clash h g p (sym s) q)) j)
    (λ p. ⊎_elim (λ q. absurd (clash g h q s p)) (λ q. one_field (field_name f ∷ earlier) fs g h a.rest p q s) j) i
  where
    a : Apart earlier f fs
    a = apart earlier f fs e

    -- x lies among the others, and y, of the same name, is the first
    clash : (x y : Field) → y ≡ f → field_name x ≡ field_name y → In x fs → ⊥
    clash x y p q k =
        let n : bytes_eq (field_name f) (field_name x) ≡ false = or_left (bytes_eq (field_name f) (field_name x)) (is_among (field_name x) earlier) (not_earlier (field_name f ∷ earlier) fs x a.rest k) in
        let m : bytes_eq (field_name f) (field_name x) ≡ true = ap (λ z. bytes_eq (field_name f) z) (q ∙ ap field_name p) ∙ bytes_self (field_name f) in
        cc

pub no_repeats : (fs : List Field) → repeats_name fs ≡ false → seconds field_name fs ≡ []
no_repeats fs e = step (seconds field_name fs) refl e
  where
    step : (xs : List Field) → seconds field_name fs ≡ xs → not (length xs == 0) ≡ false → seconds field_name fs ≡ []
    step [] q k = q
    step (x ∷ xs) q k = absurd (nonzero (length xs) k)
      where
        nonzero : (n : ℕ) → not (suc n == 0) ≡ false → ⊥
        nonzero n w = let z : (suc n == 0) ≡ false = eqb-suc-zero n in let v : not (suc n == 0) ≡ true = ap not z in cc

same_turned : (a b : Bool) → same a b ≡ true → same b a ≡ true
same_turned true true e = refl
same_turned true false e = cc
same_turned false true e = cc
same_turned false false e = refl

-- types

abbrev Turns : Ty → Type 0
Turns t = (u : Ty) → repeats_field t ≡ false → repeats_field u ≡ false → same_shape t u ≡ true → same_shape u t ≡ true

abbrev level : Ty-F (Ty → Bool) (Slot (Ty → Bool)) → Ty → Bool
level x = shape_level (with_firsts x)

fields_turn : (fs gs : List Field) → Each Turns fs → repeats_field (ty.Bundle fs) ≡ false → repeats_field (ty.Bundle gs) ≡ false
    → same_shape (ty.Bundle fs) (ty.Bundle gs) ≡ true → same_shape (ty.Bundle gs) (ty.Bundle fs) ≡ true
fields_turn fs gs h r s e =
    let both : (have_matches fs gs && have_names gs fs) ≡ true = sym (bundle_shape fs gs) ∙ e in
    let one : list_all (has_match gs) fs ≡ true = ap (list_all (has_match gs)) (sym (once_names fs r)) ∙ and_left (have_matches fs gs) (have_names gs fs) both in
    let two : list_all (has_name_in fs) gs ≡ true = and_right (have_matches fs gs) (have_names gs fs) both in
    let found : (f : Field) → In f fs → list_any (λ g. bytes_eq (field_name f) (field_name g) && matches f g) gs ≡ true
    = λ f i. ap (list_any (λ g. bytes_eq (field_name f) (field_name g) && matches f g)) (sym (once_names gs s)) ∙ all_at (has_match gs) fs f one i in
    let twice : seconds field_name gs ≡ [] = no_repeats gs (once_list gs s) in
    let first : (g : Field) → In g gs → has_match fs g ≡ true = λ g i.
    let f : Some_of (λ x. bytes_eq (field_name x) (field_name g)) fs = some_of (λ x. bytes_eq (field_name x) (field_name g)) fs (all_at (has_name_in fs) gs g two i) in
    let y : Some_of (λ x. bytes_eq (field_name f.item) (field_name x) && matches f.item x) gs = some_of (λ x. bytes_eq (field_name f.item) (field_name x) && matches f.item x) gs (found f.item f.among) in
    let n : field_name f.item ≡ field_name g = bytes_same (field_name f.item) (field_name g) f.holds in
    let m : field_name f.item ≡ field_name y.item = bytes_same (field_name f.item) (field_name y.item) (and_left (bytes_eq (field_name f.item) (field_name y.item)) (matches f.item y.item) y.holds) in
    let w : y.item ≡ g = one_field [] gs y.item g twice y.among i (sym m ∙ n) in
    let k : matches f.item g ≡ true = ap (matches f.item) (sym w) ∙ and_right (bytes_eq (field_name f.item) (field_name y.item)) (matches f.item y.item) y.holds in
    let flip : same (field_flip g) (field_flip f.item) ≡ true = same_turned (field_flip f.item) (field_flip g) (and_left (same (field_flip f.item) (field_flip g)) (same_shape (field_type f.item) (field_type g)) k) in
    let shape : same_shape (field_type g) (field_type f.item) ≡ true = each_in Turns fs f.item h f.among (field_type g) (none_at (λ x. repeats_field (field_type x)) fs f.item (once_inside fs r) f.among)
    (none_at (λ x. repeats_field (field_type x)) gs g (once_inside gs s) i) (and_right (same (field_flip f.item) (field_flip g)) (same_shape (field_type f.item) (field_type g)) k) in
    ap (list_any (λ x. bytes_eq (field_name g) (field_name x) && matches g x)) (once_names fs r)
    ∙ any_of (λ x. bytes_eq (field_name g) (field_name x) && matches g x) fs f.item f.among
    (and_both (bytes_eq (field_name g) (field_name f.item)) (matches g f.item) (bytes_turned (field_name g) (field_name f.item) ∙ f.holds) (and_both (same (field_flip g) (field_flip f.item)) (same_shape (field_type g) (field_type f.item)) flip shape)) in
    let second : (f : Field) → In f fs → has_name_in gs f ≡ true = λ f i.
    let y : Some_of (λ x. bytes_eq (field_name f) (field_name x) && matches f x) gs = some_of (λ x. bytes_eq (field_name f) (field_name x) && matches f x) gs (found f i) in
    any_of (λ x. bytes_eq (field_name x) (field_name f)) gs y.item y.among
    (bytes_turned (field_name y.item) (field_name f) ∙ and_left (bytes_eq (field_name f) (field_name y.item)) (matches f y.item) y.holds) in
    bundle_shape gs fs
    ∙ and_both (have_matches gs fs) (have_names fs gs) (ap (list_all (has_match fs)) (once_names gs s) ∙ all_of (has_match fs) gs first) (all_of (has_name_in gs) fs second)

bundle_turns : (fs : List Field) → Each Turns fs → Turns (ty.Bundle fs)
bundle_turns fs h u r s e = by (out-Ty u) refl
  where
    is_one : is_bundle u ≡ true
    is_one =
        and_left (is_bundle u) (same_fields (map (folded same_shape) (first_fields fs)) (fields_of u))
        (sym (ap (λ (f : Ty → Bool). f u) (over_bundle (Ty → Bool) shape_level fs)) ∙ e)

    by : (x : Ty-F Ty Field) → out-Ty u ≡ x → same_shape u (ty.Bundle fs) ≡ true
    by (Bundle gs) q =
        let w : u ≡ ty.Bundle gs = bundle_is u gs q in
        ap (λ z. same_shape z (ty.Bundle fs)) w
        ∙ fields_turn fs gs h r (ap repeats_field (sym w) ∙ s) (ap (same_shape (ty.Bundle fs)) (sym w) ∙ e)
    by (UInt w) q = never (sym (ap bundle_at q) ∙ is_one)
    by (SInt w) q = never (sym (ap bundle_at q) ∙ is_one)
    by Clock q = never (sym (ap bundle_at q) ∙ is_one)
    by Reset q = never (sym (ap bundle_at q) ∙ is_one)
    by (Vector of n) q = never (sym (ap bundle_at q) ∙ is_one)

vector_turns : (of : Ty) (n : ℕ) → Turns of → Turns (ty.Vector of n)
vector_turns of n h u r s e = by (out-Ty u) refl
  where
    at_n : same_vector (same_shape of) n (vector_of u) ≡ true
    at_n = sym (at-Vector Ty Bool (Slot (Ty → Bool)) level slot of n u) ∙ e

    by : (x : Ty-F Ty Field) → out-Ty u ≡ x → same_shape u (ty.Vector of n) ≡ true
    by (Vector v m) q =
        let w : u ≡ ty.Vector v m = vector_is u v m q in
        let k : (n == m && same_shape of v) ≡ true = ap (same_vector (same_shape of) n) (sym (ap vector_at q)) ∙ at_n in
        let l : n ≡ m = eqb-true n m (and_left (n == m) (same_shape of v) k) in
        let i : same_shape v of ≡ true = h v (once_vector of n r) (once_vector v m (ap repeats_field (sym w) ∙ s)) (and_right (n == m) (same_shape of v) k) in
        ap (λ z. same_shape z (ty.Vector of n)) w ∙ at-Vector Ty Bool (Slot (Ty → Bool)) level slot v m (ty.Vector of n)
        ∙ ap (same_vector (same_shape v) m) (ap vector_at (out-Vector of n))
        ∙ and_both (m == n) (same_shape v of) (eq-eqb m n (sym l)) i
    by (UInt w) q = never (sym (ap (λ y. same_vector (same_shape of) n (vector_at y)) q) ∙ at_n)
    by (SInt w) q = never (sym (ap (λ y. same_vector (same_shape of) n (vector_at y)) q) ∙ at_n)
    by Clock q = never (sym (ap (λ y. same_vector (same_shape of) n (vector_at y)) q) ∙ at_n)
    by Reset q = never (sym (ap (λ y. same_vector (same_shape of) n (vector_at y)) q) ∙ at_n)
    by (Bundle gs) q = never (sym (ap (λ y. same_vector (same_shape of) n (vector_at y)) q) ∙ at_n)

-- of an unsigned type
unsigned_turns : (t u : Ty) → is_unsigned t ≡ true → is_unsigned u ≡ true → same_shape u t ≡ true
unsigned_turns t u a b = by (out-Ty u) refl
  where
    by : (x : Ty-F Ty Field) → out-Ty u ≡ x → same_shape u t ≡ true
    by (UInt w) q = ap (λ z. same_shape z t) (rolled u (UInt w) q ∙ rolls-UInt w) ∙ at-UInt Ty Bool (Slot (Ty → Bool)) level slot w t ∙ a
    by Reset q = ap (λ z. same_shape z t) (rolled u Reset q ∙ rolls-Reset) ∙ at-Reset Ty Bool (Slot (Ty → Bool)) level slot t ∙ a
    by (SInt w) q = let z : is_unsigned u ≡ false = ap unsigned_at q in cc
    by Clock q = let z : is_unsigned u ≡ false = ap unsigned_at q in cc
    by (Bundle gs) q = let z : is_unsigned u ≡ false = ap unsigned_at q in cc
    by (Vector of n) q = let z : is_unsigned u ≡ false = ap unsigned_at q in cc

signed_turns : (t u : Ty) → is_signed t ≡ true → is_signed u ≡ true → same_shape u t ≡ true
signed_turns t u a b = by (out-Ty u) refl
  where
    by : (x : Ty-F Ty Field) → out-Ty u ≡ x → same_shape u t ≡ true
    by (SInt w) q = ap (λ z. same_shape z t) (rolled u (SInt w) q ∙ rolls-SInt w) ∙ at-SInt Ty Bool (Slot (Ty → Bool)) level slot w t ∙ a
    by (UInt w) q = let z : is_signed u ≡ false = ap signed_at q in cc
    by Reset q = let z : is_signed u ≡ false = ap signed_at q in cc
    by Clock q = let z : is_signed u ≡ false = ap signed_at q in cc
    by (Bundle gs) q = let z : is_signed u ≡ false = ap signed_at q in cc
    by (Vector of n) q = let z : is_signed u ≡ false = ap signed_at q in cc

clock_turns : (t u : Ty) → is_clock t ≡ true → is_clock u ≡ true → same_shape u t ≡ true
clock_turns t u a b = by (out-Ty u) refl
  where
    by : (x : Ty-F Ty Field) → out-Ty u ≡ x → same_shape u t ≡ true
    by Clock q = ap (λ z. same_shape z t) (rolled u Clock q ∙ rolls-Clock) ∙ at-Clock Ty Bool (Slot (Ty → Bool)) level slot t ∙ a
    by (UInt w) q = let z : is_clock u ≡ false = ap clock_at q in cc
    by (SInt w) q = let z : is_clock u ≡ false = ap clock_at q in cc
    by Reset q = let z : is_clock u ≡ false = ap clock_at q in cc
    by (Bundle gs) q = let z : is_clock u ≡ false = ap clock_at q in cc
    by (Vector of n) q = let z : is_clock u ≡ false = ap clock_at q in cc

pub turned : Turned
turned = by_form Turns (record {
  uint = λ w u r s e. unsigned_turns (ty.UInt w) u (ap unsigned_at (out-UInt w)) (sym (at-UInt Ty Bool (Slot (Ty → Bool)) level slot w u) ∙ e);
  sint = λ w u r s e. signed_turns (ty.SInt w) u (ap signed_at (out-SInt w)) (sym (at-SInt Ty Bool (Slot (Ty → Bool)) level slot w u) ∙ e);
  clock = λ u r s e. clock_turns ty.Clock u (ap clock_at out-Clock) (sym (at-Clock Ty Bool (Slot (Ty → Bool)) level slot u) ∙ e);
  reset = λ u r s e. unsigned_turns ty.Reset u (ap unsigned_at out-Reset) (sym (at-Reset Ty Bool (Slot (Ty → Bool)) level slot u) ∙ e);
  bundle = bundle_turns;
  vector = vector_turns;
})
