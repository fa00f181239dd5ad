-- To have one shape is an equivalence: a type has its own shape, and two types that have the shape of a third have one.
use Rattle.std.proofs.Common.{ℕ, Bool, true, false, not, ◌&&◌, ◌||◌, ◌≡◌, ◌==◌, List, [], ◌∷◌, map, refl, sym, ap, ◌∙◌, subst, cond, arith, true≢false, Option, None, Some, is_some, eqb-true, eq-eqb}
use Rattle.std.specs.Prelude.{find, bytes_eq}
use Rattle.std.specs.List.{list_any, list_all}
use Rattle.fir_ast.specs.declared.tree.Ty.{Ty}
use Rattle.fir_ast.specs.declared.tree.Ty.TheVariants as ty
use Rattle.fir_ast.specs.declared.tree.Ty.TheVariants.{rolls-UInt, rolls-SInt, rolls-Clock, rolls-Reset, rolls-Bundle, rolls-Vector}
use Rattle.fir_ast.specs.declared.tree.Ty.TheViews.{out-Ty, roll-Ty, roll-out-Ty, roll-Field, out-roll-Field}
use Rattle.fir_ast.specs.declared.tree.Ty.TheFolds.{ind-Ty, map-Ty, map-Field}
use Rattle.fir_ast.specs.declared.tree.Ty.TheOpen.{Ty-F, Field-F, UInt, SInt, Clock, Reset, Bundle, Vector}
use Rattle.fir_ast.specs.declared.tree.Field.{Field}
use Rattle.fir_check.specs.Names.{is_among, kept, first_ones}
use Rattle.fir_check.specs.Types.{Slot, slot, with_firsts, same, same_vector, same_shape, shape_level, vector_at, unsigned_at, signed_at, clock_at, bundle_at, is_unsigned, is_signed, is_clock, is_bundle}
use Rattle.fir_check.specs.Fields.{field_flip, field_name, field_type, first_fields, matches, has_match, have_matches, has_name_in, have_names}
use Rattle.fir_check.proofs.Unrolled as unrolled
use Rattle.fir_check.proofs.Unrolled.{at-UInt, at-SInt, at-Clock, at-Reset, at-Vector, at-Bundle, out-Vector, out-Bundle}
use Rattle.fir_check.proofs.Names.{bytes_same, bytes_self, found_is, any_is_found, any_named, all_first}
use Rattle.fir_check.proofs.Shapes.{bundle_shape}

and_left : (a b : Bool) → (a && b) ≡ true → a ≡ true
and_left true b e = refl
and_left false b e = e

and_right : (a b : Bool) → (a && b) ≡ true → b ≡ true
and_right true b e = e
and_right false b e = cc

and_both : (a b : Bool) → a ≡ true → b ≡ true → (a && b) ≡ true
and_both a b p q = ap (λ x. x && b) p ∙ q

-- the fields that a name means

abbrev pub first_named : List ℕ → List Field → Option Field
first_named n fs = find (λ f. bytes_eq (field_name f) n) fs

some_field : (f g : Field) → Some f ≡ Some g → f ≡ g
some_field f g e = ap inside e
  where
    inside : Option Field → Field
    inside None = f
    inside (Some x) = x

found_name : (n : List ℕ) (fs : List Field) (f : Field) → first_named n fs ≡ Some f → field_name f ≡ n
found_name n [] f e = cc
found_name n (x ∷ xs) f e = by (bytes_eq (field_name x) n) refl e (found_name n xs f)
  where
    by : (b : Bool) → bytes_eq (field_name x) n ≡ b → cond b (Some x) (first_named n xs) ≡ Some f → (first_named n xs ≡ Some f → field_name f ≡ n) → field_name f ≡ n
    by true q r i = ap field_name (sym (some_field x f r)) ∙ bytes_same (field_name x) n q
    by false q r i = i r

-- what holds of all first fields holds of the one that is found
first_passes : (p : Field → Bool) (n : List ℕ) (e : List (List ℕ)) (fs : List Field) (f : Field) → is_among n e ≡ false → list_all p (first_ones field_name e fs) ≡ true → first_named n fs ≡ Some f → p f ≡ true
first_passes p n e [] f h a r = cc
first_passes p n e (x ∷ xs) f h a r = by (bytes_eq (field_name x) n) (is_among (field_name x) e) refl refl a r (first_passes p n (field_name x ∷ e) xs f)
  where
    by : (b c : Bool) → bytes_eq (field_name x) n ≡ b → is_among (field_name x) e ≡ c → list_all p (kept (not c) x (first_ones field_name (field_name x ∷ e) xs)) ≡ true
        → cond b (Some x) (first_named n xs) ≡ Some f
        → (is_among n (field_name x ∷ e) ≡ false → list_all p (first_ones field_name (field_name x ∷ e) xs) ≡ true → first_named n xs ≡ Some f → p f ≡ true) → p f ≡ true
    by true true q z l s i = absurd (true≢false (sym z ∙ ap (λ m. is_among m e) (bytes_same (field_name x) n q) ∙ h))
    by true false q z l s i = ap p (sym (some_field x f s)) ∙ and_left (p x) (list_all p (first_ones field_name (field_name x ∷ e) xs)) l
    by false true q z l s i = i (ap (λ b. b || is_among n e) q ∙ h) l s
    by false false q z l s i = i (ap (λ b. b || is_among n e) q ∙ h) (and_right (p x) (list_all p (first_ones field_name (field_name x ∷ e) xs)) l) s

-- what holds of each field that is found holds of all first fields
all_pass : (p : Field → Bool) (e : List (List ℕ)) (fs : List Field) → ((n : List ℕ) (f : Field) → is_among n e ≡ false → first_named n fs ≡ Some f → p f ≡ true) → list_all p (first_ones field_name e fs) ≡ true
all_pass p e [] h = refl
all_pass p e (x ∷ xs) h = by (is_among (field_name x) e) refl (all_pass p (field_name x ∷ e) xs rest)
  where
    rest : (n : List ℕ) (f : Field) → is_among n (field_name x ∷ e) ≡ false → first_named n xs ≡ Some f → p f ≡ true
    rest n f a r = step (bytes_eq (field_name x) n) refl a
      where
        step : (b : Bool) → bytes_eq (field_name x) n ≡ b → (b || is_among n e) ≡ false → p f ≡ true
        step true q z = cc
        step false q z = h n f z (ap (λ b. cond b (Some x) (first_named n xs)) q ∙ r)

    by : (c : Bool) → is_among (field_name x) e ≡ c → list_all p (first_ones field_name (field_name x ∷ e) xs) ≡ true → list_all p (kept (not c) x (first_ones field_name (field_name x ∷ e) xs)) ≡ true
    by true z i = i
    by false z i =
        and_both (p x) (list_all p (first_ones field_name (field_name x ∷ e) xs))
        (h (field_name x) x z (ap (λ b. cond b (Some x) (first_named (field_name x) xs)) (bytes_self (field_name x)))) i

-- two bundles, name by name

abbrev pub agree : Option Field → Option Field → Bool
agree None None = true
agree None (Some g) = false
agree (Some f) None = false
agree (Some f) (Some g) = matches f g

match_found : (gs : List Field) (f : Field) (n : List ℕ) → field_name f ≡ n → has_match gs f ≡ found_is (matches f) (first_named n gs)
match_found gs f n e = any_named field_name (field_name f) (matches f) [] gs refl ∙ ap (λ m. found_is (matches f) (first_named m gs)) e

name_found : (fs : List Field) (g : Field) → has_name_in fs g ≡ is_some (first_named (field_name g) fs)
name_found fs g = any_is_found (λ f. bytes_eq (field_name f) (field_name g)) fs

names_first : (fs gs : List Field) → have_names gs fs ≡ list_all (has_name_in fs) (first_fields gs)
names_first fs gs = sym (all_first field_name (λ n. list_any (λ f. bytes_eq (field_name f) n) fs) gs)

pub agree_each : (fs gs : List Field) → (have_matches fs gs && have_names gs fs) ≡ true → (n : List ℕ) → agree (first_named n fs) (first_named n gs) ≡ true
agree_each fs gs h n = by (first_named n fs) (first_named n gs) refl refl
  where
    all_match : list_all (has_match gs) (first_fields fs) ≡ true
    all_match = and_left (have_matches fs gs) (have_names gs fs) h

    all_names : list_all (has_name_in fs) (first_fields gs) ≡ true
    all_names = sym (names_first fs gs) ∙ and_right (have_matches fs gs) (have_names gs fs) h

    matched : (f : Field) (s : Option Field) → found_is (matches f) s ≡ true → agree (Some f) s ≡ true
    matched f None e = e
    matched f (Some g) e = e

    by : (r s : Option Field) → first_named n fs ≡ r → first_named n gs ≡ s → agree r s ≡ true
    by None None p q = refl
    by None (Some g) p q =
        sym (ap is_some p) ∙ ap (λ m. is_some (first_named m fs)) (sym (found_name n gs g q)) ∙ sym (name_found fs g) ∙ first_passes (has_name_in fs) n [] gs g refl all_names q
    by (Some f) s p q = matched f s (ap (found_is (matches f)) (sym q) ∙ sym (match_found gs f n (found_name n fs f p)) ∙ first_passes (has_match gs) n [] fs f refl all_match p)

pub each_agree : (fs gs : List Field) → ((n : List ℕ) → agree (first_named n fs) (first_named n gs) ≡ true) → (have_matches fs gs && have_names gs fs) ≡ true
each_agree fs gs h =
    and_both (have_matches fs gs) (have_names gs fs)
    (all_pass (has_match gs) [] fs (λ n f a p. match_found gs f n (found_name n fs f p) ∙ found f (first_named n gs) (ap (λ r. agree r (first_named n gs)) (sym p) ∙ h n)))
    (names_first fs gs ∙ all_pass (has_name_in fs) [] gs (λ n g a q.
    name_found fs g ∙ ap (λ m. is_some (first_named m fs)) (found_name n gs g q) ∙ named g (first_named n fs) (ap (agree (first_named n fs)) (sym q) ∙ h n)))
  where
    found : (f : Field) (s : Option Field) → agree (Some f) s ≡ true → found_is (matches f) s ≡ true
    found f None e = e
    found f (Some g) e = e

    named : (g : Field) (r : Option Field) → agree r (Some g) ≡ true → is_some r ≡ true
    named g None e = e
    named g (Some f) e = refl

-- kinds of types

abbrev kind_at : {A B : Type 0} → Ty-F A B → ℕ
kind_at (UInt _) = 0
kind_at Reset = 0
kind_at (SInt _) = 1
kind_at Clock = 2
kind_at (Bundle _) = 3
kind_at (Vector _ _) = 4

abbrev kind : Ty → ℕ
kind t = kind_at (out-Ty t)

unsigned_kind : (x : Ty-F Ty Field) → unsigned_at x ≡ true → kind_at x ≡ 0
unsigned_kind (UInt _) e = refl
unsigned_kind Reset e = refl
unsigned_kind (SInt _) e = cc
unsigned_kind Clock e = cc
unsigned_kind (Bundle _) e = cc
unsigned_kind (Vector _ _) e = cc

kind_unsigned : (x : Ty-F Ty Field) → kind_at x ≡ 0 → unsigned_at x ≡ true
kind_unsigned (UInt _) e = refl
kind_unsigned Reset e = refl
kind_unsigned (SInt _) e = absurd (omega (arith, e))
kind_unsigned Clock e = absurd (omega (arith, e))
kind_unsigned (Bundle _) e = absurd (omega (arith, e))
kind_unsigned (Vector _ _) e = absurd (omega (arith, e))

signed_kind : (x : Ty-F Ty Field) → signed_at x ≡ true → kind_at x ≡ 1
signed_kind (UInt _) e = cc
signed_kind Reset e = cc
signed_kind (SInt _) e = refl
signed_kind Clock e = cc
signed_kind (Bundle _) e = cc
signed_kind (Vector _ _) e = cc

kind_signed : (x : Ty-F Ty Field) → kind_at x ≡ 1 → signed_at x ≡ true
kind_signed (UInt _) e = absurd (omega (arith, e))
kind_signed Reset e = absurd (omega (arith, e))
kind_signed (SInt _) e = refl
kind_signed Clock e = absurd (omega (arith, e))
kind_signed (Bundle _) e = absurd (omega (arith, e))
kind_signed (Vector _ _) e = absurd (omega (arith, e))

clock_kind : (x : Ty-F Ty Field) → clock_at x ≡ true → kind_at x ≡ 2
clock_kind (UInt _) e = cc
clock_kind Reset e = cc
clock_kind (SInt _) e = cc
clock_kind Clock e = refl
clock_kind (Bundle _) e = cc
clock_kind (Vector _ _) e = cc

kind_clock : (x : Ty-F Ty Field) → kind_at x ≡ 2 → clock_at x ≡ true
kind_clock (UInt _) e = absurd (omega (arith, e))
kind_clock Reset e = absurd (omega (arith, e))
kind_clock (SInt _) e = absurd (omega (arith, e))
kind_clock Clock e = refl
kind_clock (Bundle _) e = absurd (omega (arith, e))
kind_clock (Vector _ _) e = absurd (omega (arith, e))

bundle_kind : (x : Ty-F Ty Field) → bundle_at x ≡ true → kind_at x ≡ 3
bundle_kind (UInt _) e = cc
bundle_kind Reset e = cc
bundle_kind (SInt _) e = cc
bundle_kind Clock e = cc
bundle_kind (Bundle _) e = refl
bundle_kind (Vector _ _) e = cc

vector_kind : (of : Ty → Bool) (n : ℕ) (x : Ty-F Ty Field) → same_vector of n (vector_at x) ≡ true → kind_at x ≡ 4
vector_kind of n (UInt _) e = cc
vector_kind of n Reset e = cc
vector_kind of n (SInt _) e = cc
vector_kind of n Clock e = cc
vector_kind of n (Bundle _) e = cc
vector_kind of n (Vector _ _) e = refl

-- a type of a kind
record IsBundle (t : Ty) : Type 0 where
  fields : List Field
  is : t ≡ ty.Bundle fields

record IsVector (t : Ty) : Type 0 where
  of : Ty
  long : ℕ
  is : t ≡ ty.Vector of long

to_bundle : (t : Ty) (x : Ty-F Ty Field) → roll-Ty x ≡ t → kind_at x ≡ 3 → IsBundle t
to_bundle t (UInt _) r e = absurd (omega (arith, e))
to_bundle t Reset r e = absurd (omega (arith, e))
to_bundle t (SInt _) r e = absurd (omega (arith, e))
to_bundle t Clock r e = absurd (omega (arith, e))
to_bundle t (Bundle fs) r e = record { fields = fs; is = sym r ∙ rolls-Bundle fs }
to_bundle t (Vector _ _) r e = absurd (omega (arith, e))

to_vector : (t : Ty) (x : Ty-F Ty Field) → roll-Ty x ≡ t → kind_at x ≡ 4 → IsVector t
to_vector t (UInt _) r e = absurd (omega (arith, e))
to_vector t Reset r e = absurd (omega (arith, e))
to_vector t (SInt _) r e = absurd (omega (arith, e))
to_vector t Clock r e = absurd (omega (arith, e))
to_vector t (Bundle fs) r e = absurd (omega (arith, e))
to_vector t (Vector of n) r e = record { of = of; long = n; is = sym r ∙ rolls-Vector of n }

-- one level of the comparison
abbrev Level : Type 0
Level = Ty-F (Ty → Bool) (Slot (Ty → Bool))

abbrev level : Level → Ty → Bool
level t = shape_level (with_firsts t)

like_uint : (w : Option ℕ) (c : Ty) → same_shape (ty.UInt w) c ≡ is_unsigned c
like_uint w c = at-UInt Ty Bool (Slot (Ty → Bool)) level slot w c

like_reset : (c : Ty) → same_shape ty.Reset c ≡ is_unsigned c
like_reset c = at-Reset Ty Bool (Slot (Ty → Bool)) level slot c

like_sint : (w : Option ℕ) (c : Ty) → same_shape (ty.SInt w) c ≡ is_signed c
like_sint w c = at-SInt Ty Bool (Slot (Ty → Bool)) level slot w c

like_clock : (c : Ty) → same_shape ty.Clock c ≡ is_clock c
like_clock c = at-Clock Ty Bool (Slot (Ty → Bool)) level slot c

like_vector : (a : Ty) (n : ℕ) (c : Ty) → same_shape (ty.Vector a n) c ≡ same_vector (same_shape a) n (vector_at (out-Ty c))
like_vector a n c = at-Vector Ty Bool (Slot (Ty → Bool)) level slot a n c

like_vectors : (a : Ty) (n : ℕ) (b : Ty) (m : ℕ) → same_shape (ty.Vector a n) (ty.Vector b m) ≡ (n == m && same_shape a b)
like_vectors a n b m = like_vector a n (ty.Vector b m) ∙ ap (λ x. same_vector (same_shape a) n (vector_at x)) (out-Vector b m)

like_bundle : (fs : List Field) (c : Ty) → same_shape (ty.Bundle fs) c ≡ true → bundle_at (out-Ty c) ≡ true
like_bundle fs c e = and_left (is_bundle c) _ (sym (at-Bundle Ty Bool (Slot (Ty → Bool)) level slot fs c) ∙ e)

kinds_at : (b : Ty) (x : Ty-F Ty Field) (c : Ty) → roll-Ty x ≡ b → same_shape b c ≡ true → kind_at x ≡ kind c
kinds_at b (UInt w) c r e = sym (unsigned_kind (out-Ty c) (sym (like_uint w c) ∙ ap (λ t. same_shape t c) (sym (rolls-UInt w) ∙ r) ∙ e))
kinds_at b Reset c r e = sym (unsigned_kind (out-Ty c) (sym (like_reset c) ∙ ap (λ t. same_shape t c) (sym rolls-Reset ∙ r) ∙ e))
kinds_at b (SInt w) c r e = sym (signed_kind (out-Ty c) (sym (like_sint w c) ∙ ap (λ t. same_shape t c) (sym (rolls-SInt w) ∙ r) ∙ e))
kinds_at b Clock c r e = sym (clock_kind (out-Ty c) (sym (like_clock c) ∙ ap (λ t. same_shape t c) (sym rolls-Clock ∙ r) ∙ e))
kinds_at b (Bundle fs) c r e = sym (bundle_kind (out-Ty c) (like_bundle fs c (ap (λ t. same_shape t c) (sym (rolls-Bundle fs) ∙ r) ∙ e)))
kinds_at b (Vector a n) c r e = sym (vector_kind (same_shape a) n (out-Ty c) (sym (like_vector a n c) ∙ ap (λ t. same_shape t c) (sym (rolls-Vector a n) ∙ r) ∙ e))

kinds : (b c : Ty) → same_shape b c ≡ true → kind b ≡ kind c
kinds b c e = kinds_at b (out-Ty b) c (roll-out-Ty b) e

-- induction

abbrev pub IsEuclid : Ty → Type 0
IsEuclid a = (b c : Ty) → same_shape a c ≡ true → same_shape b c ≡ true → same_shape a b ≡ true

abbrev pub IsReflexive : Ty → Type 0
IsReflexive a = same_shape a a ≡ true

-- the property of the field that is found
found_holds : (P : Ty → Type 0) (fs : List ((f : Field) × P (field_type f))) (n : List ℕ) (f : Field) → first_named n (map (λ e. e.0) fs) ≡ Some f → P (field_type f)
found_holds P [] n f e = cc
found_holds P (x ∷ xs) n f e = by (bytes_eq (field_name x.0) n) e (found_holds P xs n f)
  where
    by : (b : Bool) → cond b (Some x.0) (first_named n (map (λ d. d.0) xs)) ≡ Some f → (first_named n (map (λ d. d.0) xs) ≡ Some f → P (field_type f)) → P (field_type f)
    by true r i = subst (λ g. P (field_type g)) (some_field x.0 f r) x.1
    by false r i = i r

same_flips : (x y z : Bool) → same x z ≡ true → same y z ≡ true → same x y ≡ true
same_flips true true z p q = refl
same_flips false false z p q = refl
same_flips true false true p q = q
same_flips true false false p q = p
same_flips false true true p q = p
same_flips false true false p q = q

same_self : (x : Bool) → same x x ≡ true
same_self true = refl
same_self false = refl

euclid_field : (f g h : Field) → IsEuclid (field_type f) → matches f h ≡ true → matches g h ≡ true → matches f g ≡ true
euclid_field f g h i p q =
    and_both (same (field_flip f) (field_flip g)) (same_shape (field_type f) (field_type g))
    (same_flips (field_flip f) (field_flip g) (field_flip h) (and_left (same (field_flip f) (field_flip h)) (same_shape (field_type f) (field_type h)) p) (and_left (same (field_flip g) (field_flip h)) (same_shape (field_type g) (field_type h)) q))
    (i (field_type g) (field_type h) (and_right (same (field_flip f) (field_flip h)) (same_shape (field_type f) (field_type h)) p) (and_right (same (field_flip g) (field_flip h)) (same_shape (field_type g) (field_type h)) q))

euclid_found : (r s t : Option Field) → ((f : Field) → r ≡ Some f → IsEuclid (field_type f)) → agree r t ≡ true → agree s t ≡ true → agree r s ≡ true
euclid_found None None t i p q = refl
euclid_found None (Some g) None i p q = q
euclid_found None (Some g) (Some h) i p q = p
euclid_found (Some f) None None i p q = p
euclid_found (Some f) None (Some h) i p q = q
euclid_found (Some f) (Some g) None i p q = absurd (true≢false (sym p))
euclid_found (Some f) (Some g) (Some h) i p q = euclid_field f g h (i f refl) p q

euclid_bundle : (fs : List Field) → ((n : List ℕ) (f : Field) → first_named n fs ≡ Some f → IsEuclid (field_type f)) → IsEuclid (ty.Bundle fs)
euclid_bundle fs i b c p q =
    let kc : kind c ≡ 3 = bundle_kind (out-Ty c) (like_bundle fs c p) in
    let hs : IsBundle c = to_bundle c (out-Ty c) (roll-out-Ty c) kc in
    let gs : IsBundle b = to_bundle b (out-Ty b) (roll-out-Ty b) (kinds b c q ∙ kc) in
    let m : (have_matches fs hs.fields && have_names hs.fields fs) ≡ true = sym (bundle_shape fs hs.fields) ∙ ap (same_shape (ty.Bundle fs)) (sym hs.is) ∙ p in
    let o : (have_matches gs.fields hs.fields && have_names hs.fields gs.fields) ≡ true =
    sym (bundle_shape gs.fields hs.fields) ∙ ap (same_shape (ty.Bundle gs.fields)) (sym hs.is) ∙ ap (λ t. same_shape t c) (sym gs.is) ∙ q in
    ap (same_shape (ty.Bundle fs)) gs.is ∙ bundle_shape fs gs.fields
    ∙ each_agree fs gs.fields (λ n. euclid_found (first_named n fs) (first_named n gs.fields) (first_named n hs.fields) (i n) (agree_each fs hs.fields m n) (agree_each gs.fields hs.fields o n))

euclid_vector : (a : Ty) (n : ℕ) → IsEuclid a → IsEuclid (ty.Vector a n)
euclid_vector a n i b c p q =
    let kc : kind c ≡ 4 = vector_kind (same_shape a) n (out-Ty c) (sym (like_vector a n c) ∙ p) in
    let h : IsVector c = to_vector c (out-Ty c) (roll-out-Ty c) kc in
    let g : IsVector b = to_vector b (out-Ty b) (roll-out-Ty b) (kinds b c q ∙ kc) in
    let m : (n == h.long && same_shape a h.of) ≡ true = sym (like_vectors a n h.of h.long) ∙ ap (same_shape (ty.Vector a n)) (sym h.is) ∙ p in
    let o : (g.long == h.long && same_shape g.of h.of) ≡ true = sym (like_vectors g.of g.long h.of h.long) ∙ ap (same_shape (ty.Vector g.of g.long)) (sym h.is) ∙ ap (λ t. same_shape t c) (sym g.is) ∙ q in
    ap (same_shape (ty.Vector a n)) g.is ∙ like_vectors a n g.of g.long
    ∙ and_both (n == g.long) (same_shape a g.of)
    (eq-eqb n g.long (eqb-true n h.long (and_left (n == h.long) (same_shape a h.of) m) ∙ sym (eqb-true g.long h.long (and_left (g.long == h.long) (same_shape g.of h.of) o))))
    (i g.of h.of (and_right (n == h.long) (same_shape a h.of) m) (and_right (g.long == h.long) (same_shape g.of h.of) o))

euclid_uint : (w : Option ℕ) → IsEuclid (ty.UInt w)
euclid_uint w b c p q = like_uint w b ∙ kind_unsigned (out-Ty b) (kinds b c q ∙ unsigned_kind (out-Ty c) (sym (like_uint w c) ∙ p))

euclid_reset : IsEuclid ty.Reset
euclid_reset b c p q = like_reset b ∙ kind_unsigned (out-Ty b) (kinds b c q ∙ unsigned_kind (out-Ty c) (sym (like_reset c) ∙ p))

euclid_sint : (w : Option ℕ) → IsEuclid (ty.SInt w)
euclid_sint w b c p q = like_sint w b ∙ kind_signed (out-Ty b) (kinds b c q ∙ signed_kind (out-Ty c) (sym (like_sint w c) ∙ p))

euclid_clock : IsEuclid ty.Clock
euclid_clock b c p q = like_clock b ∙ kind_clock (out-Ty b) (kinds b c q ∙ clock_kind (out-Ty c) (sym (like_clock c) ∙ p))

self_found : (r : Option Field) → ((f : Field) → r ≡ Some f → IsReflexive (field_type f)) → agree r r ≡ true
self_found None i = refl
self_found (Some f) i = and_both (same (field_flip f) (field_flip f)) (same_shape (field_type f) (field_type f)) (same_self (field_flip f)) (i f refl)

self_bundle : (fs : List Field) → ((n : List ℕ) (f : Field) → first_named n fs ≡ Some f → IsReflexive (field_type f)) → IsReflexive (ty.Bundle fs)
self_bundle fs i = bundle_shape fs fs ∙ each_agree fs fs (λ n. self_found (first_named n fs) (i n))

self_vector : (a : Ty) (n : ℕ) → IsReflexive a → IsReflexive (ty.Vector a n)
self_vector a n i = like_vectors a n a n ∙ and_both (n == n) (same_shape a a) (eq-eqb n n refl) i

self_uint : (w : Option ℕ) → IsReflexive (ty.UInt w)
self_uint w = like_uint w (ty.UInt w) ∙ ap unsigned_at (out-of-UInt w)
  where
    out-of-UInt : (v : Option ℕ) → out-Ty (ty.UInt v) ≡ UInt v
    out-of-UInt v = unrolled.out-UInt v

self_reset : IsReflexive ty.Reset
self_reset = like_reset ty.Reset ∙ ap unsigned_at unrolled.out-Reset

self_sint : (w : Option ℕ) → IsReflexive (ty.SInt w)
self_sint w = like_sint w (ty.SInt w) ∙ ap signed_at (unrolled.out-SInt w)

self_clock : IsReflexive ty.Clock
self_clock = like_clock ty.Clock ∙ ap clock_at unrolled.out-Clock

module _ (P : Ty → Type 0) where
  abbrev WithTy : Type 0
  WithTy = (t : Ty) × P t

  abbrev WithField : Type 0
  WithField = (f : Field) × P (field_type f)

  abbrev plain : Ty-F WithTy WithField → Ty-F Ty Field
  plain x = map-Ty WithTy WithField Ty Field (λ e. e.0) (λ e. e.0) x

  abbrev plain_field : Field-F WithTy WithField → Field-F Ty Field
  plain_field x = map-Field WithTy WithField Ty Field (λ e. e.0) (λ e. e.0) x

  -- a property of all types, from each kind of them
  by_kinds : ((w : Option ℕ) → P (ty.UInt w)) → ((w : Option ℕ) → P (ty.SInt w)) → P ty.Clock → P ty.Reset
      → ((fs : List Field) → ((n : List ℕ) (f : Field) → first_named n fs ≡ Some f → P (field_type f)) → P (ty.Bundle fs))
      → ((a : Ty) (n : ℕ) → P a → P (ty.Vector a n)) → (t : Ty) → P t
  by_kinds u s c r b v = ind-Ty P (λ f. P (field_type f))
      (λ x y is. subst (λ z. P (roll-Ty z)) is (at y))
      (λ x y is. subst (λ z. P (field_type (roll-Field z))) is (subst P (sym (ap (λ z. z.ty) (out-roll-Field (plain_field y)))) y.ty.1))
    where
      at : (y : Ty-F WithTy WithField) → P (roll-Ty (plain y))
      at (UInt w) = subst P (sym (rolls-UInt w)) (u w)
      at (SInt w) = subst P (sym (rolls-SInt w)) (s w)
      at Clock = subst P (sym rolls-Clock) c
      at Reset = subst P (sym rolls-Reset) r
      at (Bundle fields) = subst P (sym (rolls-Bundle (map (λ e. e.0) fields))) (b (map (λ e. e.0) fields) (λ n f e. found_holds P fields n f e))
      at (Vector of n) = subst P (sym (rolls-Vector of.0 n)) (v of.0 n of.1)

pub shape_euclid : (a b c : Ty) → same_shape a c ≡ true → same_shape b c ≡ true → same_shape a b ≡ true
shape_euclid = by_kinds IsEuclid euclid_uint euclid_sint euclid_clock euclid_reset euclid_bundle euclid_vector

pub shape_self : (a : Ty) → same_shape a a ≡ true
shape_self = by_kinds IsReflexive self_uint self_sint self_clock self_reset self_bundle self_vector
