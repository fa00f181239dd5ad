-- The places that names were given are those of the first of each name.
use Rattle.std.proofs.Common.{ℕ, zero, suc, Bool, true, false, not, ◌&&◌, cond, ◌≡◌, ◌+◌, ◌<◌, ◌≤◌, List, [], ◌∷◌, ◌++◌, length, take, drop, get_or, refl, sym, ap, ◌∙◌, subst, arith, add-one, drop-cons, Option, None, Some, is_some, is_none, option_map, if◌then◌else◌, ltb, Result, Ok, Err, OnOk, is_err}
use Rattle.std.specs.Prelude.{bytes_eq}
use borrow.Author.Tests.{ltb-true}
use Rattle.std.specs.List.{position_from}
use Rattle.std.proofs.lemmas.List.{drop_all}
use Rattle.std.proofs.lemmas.Slice.Eq.{bytes_eq-Decides}
use Rattle.fir_ast.specs.declared.tree.Module.{Module}
use Rattle.fir_flat.specs.declared.kinds.Flow.TheVariants.{Fixed}
use Rattle.fir_flat.specs.declared.kinds.Known.{Known}
use Rattle.fir_flat.specs.declared.places.NamePlaces.{NamePlaces}
use Rattle.fir_flat.specs.Shapes.{empty}
use Rattle.fir_flat.specs.Values.{Bound, bound, bound_named}
use Rattle.fir_flat.specs.Modules.{place_of}
use Rattle.fir_flat.specs.declared.kinds.Kind.{Kind}
use Rattle.fir_flat.specs.KnownNames.{KindsOf}
use Rattle.fir_flat.specs.Kinds.{kind_shape, bound_of, seen}
use Rattle.fir_flat.specs.Scopes.{place_given, Gives, SamePlaces, first_place, is_at, GivesFirst, GivesModules}

names_equal : (a b : List ℕ) → bytes_eq a b ≡ true → a ≡ b
names_equal a b e = (bytes_eq-Decides a b).0 e

after_suc : (r : Option ℕ) (p : ℕ) → option_map suc r ≡ Some (suc p) → r ≡ Some p
after_suc None p e = cc
after_suc (Some q) p e = cc

not_first : (r : Option ℕ) (P : Type 0) → option_map suc r ≡ Some 0 → P
not_first None P e = cc
not_first (Some q) P e = cc

-- the first of a name stands at its place
pub record IsFound (name : List ℕ) (ks : List Known) (p : ℕ) : Type 0 where
  pub at : is_at name ks p ≡ true
  pub within : p < length ks
  pub means : (d : Known) → bound_of (get_or ks p d) ≡ bound_named name (seen ks)

pub first_found : (name : List ℕ) (ks : List Known) (p : ℕ) → first_place name ks ≡ Some p → IsFound name ks p
first_found name [] p e = cc
first_found name (k ∷ ks) zero e = by (bytes_eq k.name.now name) refl e
  where
    by : (b : Bool) → bytes_eq k.name.now name ≡ b → cond b (Some 0) (option_map suc (first_place name ks)) ≡ Some 0 → IsFound name (k ∷ ks) zero
    by true f g = record { at = f; within = omega arith; means = λ d. sym (ap (λ b. if b then bound_of k else bound_named name (seen ks)) f) }
    by false f g = not_first (first_place name ks) _ g
first_found name (k ∷ ks) (suc p) e = by (first_found name ks p) (bytes_eq k.name.now name) refl e
  where
    by : (first_place name ks ≡ Some p → IsFound name ks p) → (b : Bool) → bytes_eq k.name.now name ≡ b → cond b (Some 0) (option_map suc (first_place name ks)) ≡ Some (suc p)
        → IsFound name (k ∷ ks) (suc p)
    by h true f g = cc
    by h false f g =
        let i : IsFound name ks p = h (after_suc (first_place name ks) p g) in
        record {
          at = i.at;
          within = let w = i.within in omega (arith, w);
          means = λ d. i.means d ∙ sym (ap (λ b. if b then bound_of k else bound_named name (seen ks)) f);
        }

pub first_there : (name : List ℕ) (ks : List Known) (p : ℕ) → is_at name ks p ≡ true → is_some (first_place name ks) ≡ true
first_there name [] p h = cc
first_there name (k ∷ ks) zero h = ap (λ b. is_some (cond b (Some 0) (option_map suc (first_place name ks)))) h
first_there name (k ∷ ks) (suc p) h = by (bytes_eq k.name.now name) (first_place name ks) (first_there name ks p h)
  where
    by : (b : Bool) (r : Option ℕ) → is_some r ≡ true → is_some (cond b (Some 0) (option_map suc r)) ≡ true
    by true r i = refl
    by false None i = cc
    by false (Some q) i = refl

pub unknown_means : (name : List ℕ) (ks : List Known) → first_place name ks ≡ None → bound_named name (seen ks) ≡ bound [] empty Fixed 0
unknown_means name [] e = refl
unknown_means name (k ∷ ks) e = by (unknown_means name ks) (bytes_eq k.name.now name) (first_place name ks) refl e
  where
    by : (first_place name ks ≡ None → bound_named name (seen ks) ≡ bound [] empty Fixed 0) → (b : Bool) (r : Option ℕ) → first_place name ks ≡ r
        → cond b (Some 0) (option_map suc r) ≡ None → (if b then bound_of k else bound_named name (seen ks)) ≡ bound [] empty Fixed 0
    by h true r f g = cc
    by h false None f g = h f
    by h false (Some q) f g = cc

-- looking up a name

pub none_given : (name : List ℕ) (ks : List Known) (places : NamePlaces) → GivesFirst ks places → place_given name places ≡ None → first_place name ks ≡ None
none_given name ks places g e = by (first_place name ks) refl
  where
    by : (r : Option ℕ) → first_place name ks ≡ r → r ≡ None
    by None f = refl
    by (Some p) f = let h : place_given name places ≡ Some p = g.each name p f in cc

pub right_given : (name : List ℕ) (ks : List Known) (places : NamePlaces) (p : ℕ) → GivesFirst ks places → place_given name places ≡ Some p → is_at name ks p ≡ true → first_place name ks ≡ Some p
right_given name ks places p g e a = by (first_place name ks) refl (first_there name ks p a)
  where
    by : (r : Option ℕ) → first_place name ks ≡ r → is_some r ≡ true → r ≡ Some p
    by None f s = cc
    by (Some q) f s = sym (g.each name q f) ∙ e

pub stale_given : (name : List ℕ) (ks : List Known) (places : NamePlaces) (p : ℕ) → GivesFirst ks places → place_given name places ≡ Some p → is_at name ks p ≡ false → first_place name ks ≡ None
stale_given name ks places p g e a = by (first_place name ks) refl
  where
    by : (r : Option ℕ) → first_place name ks ≡ r → r ≡ None
    by None f = refl
    by (Some q) f =
        let h : Some q ≡ Some p = sym (g.each name q f) ∙ e in
        let i : is_at name ks q ≡ true = (first_found name ks q f).at in
        let j : q ≡ p = cc in
        let n : is_at name ks p ≡ true = subst (λ n. is_at name ks n ≡ true) j i in cc

-- a further name

abbrev or_first : Option ℕ → Option ℕ → Option ℕ
or_first None o = o
or_first (Some p) o = Some p

first_last : (q : List ℕ) (ks : List Known) (k : Known) → first_place q (ks ++ k ∷ []) ≡ or_first (first_place q ks) (cond (bytes_eq k.name.now q) (Some (length ks)) None)
first_last q [] k = refl
first_last q (x ∷ ks) k = by (bytes_eq x.name.now q) (first_place q ks) (bytes_eq k.name.now q) _ (first_last q ks k)
  where
    by : (b : Bool) (r : Option ℕ) (c : Bool) (s : Option ℕ) → s ≡ or_first r (cond c (Some (length ks)) None)
        → cond b (Some 0) (option_map suc s) ≡ or_first (cond b (Some 0) (option_map suc r)) (cond c (Some (suc (length ks))) None)
    by true r c s e = refl
    by false (Some p) c s e = ap (option_map suc) e
    by false None true s e = ap (option_map suc) e
    by false None false s e = ap (option_map suc) e

and_false : (a b : Bool) → b ≡ false → (a && b) ≡ false
and_false true b e = e
and_false false b e = refl

pub first_kept : (ks : List Known) (name : List ℕ) (given : Bool) (old new : NamePlaces) → given ≡ is_none (first_place name ks) → Gives given name (length ks) old new
    → GivesFirst ks old → GivesFirst ks new
first_kept ks name given old new s g f = record { each = λ q p e. g.each q ∙ ap (λ b. if b then Some (length ks) else place_given q old) (by q p e (bytes_eq name q) refl) ∙ f.each q p e }
  where
    by : (q : List ℕ) (p : ℕ) → first_place q ks ≡ Some p → (b : Bool) → bytes_eq name q ≡ b → (given && bytes_eq name q) ≡ false
    by q p e true h =
        let n : name ≡ q = names_equal name q h in
        let t : given ≡ false = s ∙ ap (λ x. is_none (first_place x ks)) n ∙ ap is_none e in
        ap (λ b. b && bytes_eq name q) t
    by q p e false h = and_false given (bytes_eq name q) h

pub first_more : (ks : List Known) (k : Known) (given : Bool) (old new : NamePlaces) → given ≡ is_none (first_place k.name.now ks) → Gives given k.name.now (length ks) old new
    → GivesFirst ks old → GivesFirst (ks ++ k ∷ []) new
first_more ks k given old new s g f = record { each = λ q p e. by q p (first_place q ks) refl (bytes_eq k.name.now q) refl (sym (first_last q ks k) ∙ e) }
  where
    by : (q : List ℕ) (p : ℕ) (r : Option ℕ) → first_place q ks ≡ r → (b : Bool) → bytes_eq k.name.now q ≡ b → or_first (first_place q ks) (cond (bytes_eq k.name.now q) (Some (length ks)) None) ≡ Some p
        → place_given q new ≡ Some p
    by q p (Some x) e b h i =
        let j : Some x ≡ Some p = sym (ap (λ o. or_first o (cond (bytes_eq k.name.now q) (Some (length ks)) None)) e) ∙ i in
        (first_kept ks k.name.now given old new s g f).each q x e ∙ j
    by q p None e true h i =
        let n : k.name.now ≡ q = names_equal k.name.now q h in
        let t : given ≡ true = s ∙ ap (λ x. is_none (first_place x ks)) n ∙ ap is_none e in
        let u : (given && bytes_eq k.name.now q) ≡ true = ap (λ b. b && bytes_eq k.name.now q) t ∙ h in
        g.each q ∙ ap (λ b. if b then Some (length ks) else place_given q old) u
        ∙ sym (ap (λ b. or_first None (cond b (Some (length ks)) None)) h) ∙ sym (ap (λ o. or_first o (cond (bytes_eq k.name.now q) (Some (length ks)) None)) e) ∙ i
    by q p None e false h i =
        let j : None ≡ Some p = sym (ap (λ b. or_first None (cond b (Some (length ks)) None)) h) ∙ sym (ap (λ o. or_first o (cond (bytes_eq k.name.now q) (Some (length ks)) None)) e) ∙ i in cc

pub first_same : (ks : List Known) (old new : NamePlaces) → SamePlaces old new → GivesFirst ks old → GivesFirst ks new
first_same ks old new s f = record { each = λ q p e. s.each q ∙ f.each q p e }

-- the end of a block

first_earlier : (q : List ℕ) (ks : List Known) (n p : ℕ) → first_place q (take n ks) ≡ Some p → first_place q ks ≡ Some p
first_earlier q [] zero p e = e
first_earlier q [] (suc n) p e = e
first_earlier q (k ∷ ks) zero p e = cc
first_earlier q (k ∷ ks) (suc n) p e = by (bytes_eq k.name.now q) (first_place q (take n ks)) (first_earlier q ks n) e
  where
    by : (b : Bool) (r : Option ℕ) → ((x : ℕ) → r ≡ Some x → first_place q ks ≡ Some x) → cond b (Some 0) (option_map suc r) ≡ Some p
        → cond b (Some 0) (option_map suc (first_place q ks)) ≡ Some p
    by true r h g = g
    by false None h g = cc
    by false (Some x) h g = ap (option_map suc) (h x refl) ∙ g

pub first_cut : (ks : List Known) (n : ℕ) (places : NamePlaces) → GivesFirst ks places → GivesFirst (take n ks) places
first_cut ks n places f = record { each = λ q p e. f.each q p (first_earlier q ks n p e) }

-- the modules

pub modules_start : (ms : List Module) (places : NamePlaces) → ((q : List ℕ) → place_given q places ≡ None) → GivesModules (length ms) (drop (length ms) ms) places
modules_start ms places h = record { each = λ q. h q ∙ ap (position_from (λ m. bytes_eq m.name q) (length ms)) (sym (drop_all (length ms) ms (omega arith))) }

pub modules_next : (ms : List Module) (i k : ℕ) (m : Module) (name : List ℕ) (old new : NamePlaces) → k + 1 ≡ i → k < length ms → m ≡ get_or ms k m → name ≡ m.name
    → Gives true name k old new → GivesModules i (drop i ms) old → GivesModules k (drop k ms) new
modules_next ms i k m name old new s h e n g f = record {
  each = λ q.
      g.each q ∙ ap (λ o. cond (bytes_eq name q) (Some k) o) (f.each q ∙ ap (λ j. position_from (λ x. bytes_eq x.name q) j (drop j ms)) (sym s))
      ∙ ap (λ x. cond (bytes_eq x q) (Some k) (position_from (λ x. bytes_eq x.name q) (k + 1) (drop (k + 1) ms))) n
      ∙ ap (position_from (λ x. bytes_eq x.name q) k) (sym (drop-cons ms k m h ∙ ap (λ y. y ∷ drop (suc k) ms) (sym e) ∙ ap (λ j. m ∷ drop j ms) (sym (add-one k))));
}

abbrev pub else_at : Option ℕ → ℕ → ℕ
else_at None n = n
else_at (Some p) n = p

placed : (name : List ℕ) (i : ℕ) (ms : List Module) → else_at (position_from (λ m. bytes_eq m.name name) i ms) (i + length ms) ≡ i + place_of ms name
placed name i [] = refl
placed name i (m ∷ ms) = by (bytes_eq m.name name) (position_from (λ m. bytes_eq m.name name) (i + 1) ms) (placed name (i + 1) ms)
  where
    by : (b : Bool) (o : Option ℕ) → else_at o ((i + 1) + length ms) ≡ (i + 1) + place_of ms name
        → else_at (cond b (Some i) o) (i + suc (length ms)) ≡ i + (if b then 0 else suc (place_of ms name))
    by true o e = omega arith
    by false None e = let f : (i + 1) + length ms ≡ (i + 1) + place_of ms name = e in omega (arith, f)
    by false (Some p) e = let f : p ≡ (i + 1) + place_of ms name = e in omega (arith, f)

pub place_found : (name : List ℕ) (ms : List Module) (places : NamePlaces) → GivesModules 0 ms places → else_at (place_given name places) (length ms) ≡ place_of ms name
place_found name ms places g =
    let p : Option ℕ = position_from (λ m. bytes_eq m.name name) 0 ms in
    let z : length ms ≡ 0 + length ms = omega arith in
    let e : 0 + place_of ms name ≡ place_of ms name = omega arith in
    ap (λ o. else_at o (length ms)) (g.each name) ∙ ap (else_at p) z ∙ placed name 0 ms ∙ e

-- the name at a place

pub at_place : (name : List ℕ) (ks : List Known) (p : ℕ) (d : Known) → p < length ks → is_at name ks p ≡ bytes_eq (get_or ks p d).name.now name
at_place name [] p d h = absurd (omega arith)
at_place name (k ∷ ks) zero d h = refl
at_place name (k ∷ ks) (suc p) d h = at_place name ks p d (omega arith)

pub at_past : (name : List ℕ) (ks : List Known) (p : ℕ) → length ks ≤ p → is_at name ks p ≡ false
at_past name [] p h = refl
at_past name (k ∷ ks) zero h = absurd (omega arith)
at_past name (k ∷ ks) (suc p) h = at_past name ks p (omega arith)

pub at_ok : {T E : Type 0} (r : Result T E) (P : Type 0) → is_err r ≡ false → OnOk r P → P
at_ok (Ok x) P e p = p
at_ok (Err x) P e p = cc

pub not_below : (p n : ℕ) → n ≤ p → ltb p n ≡ false
not_below p n h = by (ltb p n) refl
  where
    by : (b : Bool) → ltb p n ≡ b → b ≡ false
    by true e = let q : p < n = ltb-true p n e in absurd (omega (arith, h, q))
    by false e = refl

pub none_said : (b : Bool) (r : Option ℕ) → not b ≡ is_some r → b ≡ is_none r
none_said true None e = refl
none_said true (Some x) e = cc
none_said false None e = cc
none_said false (Some x) e = refl

-- the types of the names

pub offered : (name : List ℕ) (ks : List Known) (fs : List Kind) (p : ℕ) (f : Kind) → KindsOf ks fs → first_place name ks ≡ Some p
    → kind_shape (get_or fs p f) ≡ (bound_named name (seen ks)).ty
offered name [] fs p f o e = cc
offered name (k ∷ ks) [] p f o e = absurd o
offered name (k ∷ ks) (g ∷ fs) zero f o e = by (bytes_eq k.name.now name) refl e
  where
    by : (b : Bool) → bytes_eq k.name.now name ≡ b → cond b (Some 0) (option_map suc (first_place name ks)) ≡ Some 0 → kind_shape g ≡ (bound_named name (seen (k ∷ ks))).ty
    by true h i = subst (λ (b : Bool). kind_shape g ≡ (if b then bound_of k else bound_named name (seen ks)).ty) (sym h) o.0
    by false h i = not_first (first_place name ks) _ i
offered name (k ∷ ks) (g ∷ fs) (suc p) f o e = by (offered name ks fs p f o.1) (bytes_eq k.name.now name) refl e
  where
    by : (first_place name ks ≡ Some p → kind_shape (get_or fs p f) ≡ (bound_named name (seen ks)).ty) → (b : Bool) → bytes_eq k.name.now name ≡ b
        → cond b (Some 0) (option_map suc (first_place name ks)) ≡ Some (suc p) → kind_shape (get_or fs p f) ≡ (bound_named name (seen (k ∷ ks))).ty
    by h true i j = cc
    by h false i j =
        subst (λ (b : Bool). kind_shape (get_or fs p f) ≡ (if b then bound_of k else bound_named name (seen ks)).ty) (sym i) (h (after_suc (first_place name ks) p j))

pub offered_enough : (ks : List Known) (fs : List Kind) → KindsOf ks fs → length ks ≤ length fs
offered_enough [] fs o = omega arith
offered_enough (k ∷ ks) [] o = absurd o
offered_enough (k ∷ ks) (f ∷ fs) o = let h = offered_enough ks fs o.1 in omega (arith, h)

pub offered_cut : (ks : List Known) (fs : List Kind) → KindsOf ks fs → KindsOf ks (take (length ks) fs)
offered_cut [] fs o = o
offered_cut (k ∷ ks) [] o = absurd o
offered_cut (k ∷ ks) (f ∷ fs) o = (o.0, offered_cut ks fs o.1)

pub offered_still : (ks : List Known) (fs : List Kind) (g : Kind) → KindsOf ks fs → KindsOf ks (take (length ks) fs ++ g ∷ [])
offered_still [] fs g o = o
offered_still (k ∷ ks) [] g o = absurd o
offered_still (k ∷ ks) (f ∷ fs) g o = (o.0, offered_still ks fs g o.1)

pub offered_more : (ks : List Known) (fs : List Kind) (k : Known) (g : Kind) → KindsOf ks fs → kind_shape g ≡ kind_shape k.kind
    → KindsOf (ks ++ k ∷ []) (take (length ks) fs ++ g ∷ [])
offered_more [] [] k g o h = (h, o)
offered_more [] (f ∷ fs) k g o h = (h, o)
offered_more (x ∷ ks) [] k g o h = absurd o
offered_more (x ∷ ks) (f ∷ fs) k g o h = (o.0, offered_more ks fs k g o.1 h)

pub offered_fewer : (ks : List Known) (fs : List Kind) (n : ℕ) → KindsOf ks fs → KindsOf (take n ks) fs
offered_fewer [] fs zero o = o
offered_fewer [] fs (suc n) o = o
offered_fewer (k ∷ ks) [] n o = absurd o
offered_fewer (k ∷ ks) (f ∷ fs) zero o = tt
offered_fewer (k ∷ ks) (f ∷ fs) (suc n) o = (o.0, offered_fewer ks fs n o.1)

-- a name with its type looked up
pub with_kind : (k : Known) (x : Kind) (b : Bound) → bound_of k ≡ b → kind_shape x ≡ b.ty → bound_of (record { name = k.name; kind = x; flow = k.flow; first = k.first }) ≡ b
with_kind k x b e f = ap (λ t. bound k.name.now t k.flow k.first) (f ∙ sym (ap (λ (y : Bound). y.ty) e)) ∙ e
