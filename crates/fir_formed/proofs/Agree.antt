-- What the rules know of names, and what the elaboration knows of them.
use Rattle.std.proofs.Common.{◌≡◌, ◌∙◌, sym, ap, ap₂, subst, ℕ, zero, ◌+◌, Bool, true, false, ◌&&◌, ◌||◌, List, [], ◌∷◌, ◌++◌, Some, None, cond, refl, length, map, bytes_eq, find, ◌⊎◌, inl, inr, ⊎_elim}
use Rattle.net_core.specs.declared.tree.SignalInfo.{SignalInfo}
use Rattle.fir_check.specs.Names.{is_among}
use Rattle.fir_check.specs.Types.{repeats_field}
use Rattle.fir_check.specs.Scopes.{Thing, Known, fresh, is_declared, visible, added, hidden, hide}
use Rattle.fir_check.proofs.Names.{bytes_same, or_left, or_right, or_true}
use Rattle.fir_formed.proofs.Flows.{Like}
use Rattle.fir_flat.specs.Shapes.{shape_of}
use Rattle.fir_flat.specs.Values.{Bound, bound_named, Value, leaf_signed}
use Rattle.fir_formed.proofs.Fair.{Within}
use Rattle.fir_formed.proofs.Good.{Good, Sound, OpenPart, Open, leaf_flow}

-- a value is what the rules take the expression for
pub record Stands (S : List SignalInfo) (scope : List ℕ) (t : Thing) (v : Value) : Type 0 where
  pub ty : v.ty ≡ shape_of t.ty
  pub flow : Like t.flow v.flow
  pub plain : repeats_field t.ty ≡ false
  pub good : Good S scope v

pub record BoundTo (S : List SignalInfo) (scope : List ℕ) (t : Thing) (b : Bound) : Type 0 where
  pub ty : b.ty ≡ shape_of t.ty
  pub flow : Like t.flow b.flow
  pub plain : repeats_field t.ty ≡ false
  pub sound : Sound S scope b

abbrev pub is_bound : List ℕ → List Bound → Bool
is_bound name bs = is_among name (map (λ (b : Bound). b.name) bs)

pub record Seen (S : List SignalInfo) (scope : List ℕ) (bounds : List Bound) (name : List ℕ) (k : Known) : Type 0 where
  pub thing : Thing
  pub is : k.meaning ≡ Some thing
  pub there : is_bound name bounds ≡ true
  pub bound : BoundTo S scope thing (bound_named name bounds)

pub record Agree (S : List SignalInfo) (scope : List ℕ) (known : List Known) (bounds : List Bound) : Type 0 where
  pub names : (name : List ℕ) → is_declared name known ≡ false → is_bound name bounds ≡ false
  pub seen : (name : List ℕ) (k : Known) → visible name known ≡ Some k → Seen S scope bounds name k

-- more signals are declared

pub sound_more : (S : List SignalInfo) (s t : List ℕ) (b : Bound) → Within s t → Sound S s b → Sound S t b
sound_more S s t b w h k l =
    let p : OpenPart S s (leaf_signed b.ty k) (leaf_flow b.ty b.flow k) (b.first + k) = h k l in
    record {
      below = p.below;
      signed = p.signed;
      settable = λ m. let o : Open S s (b.first + k) = p.settable m in record { kept = o.kept; plain = o.plain; there = w (b.first + k) o.there };
    }

pub bound_more : (S : List SignalInfo) (s t : List ℕ) (x : Thing) (b : Bound) → Within s t → BoundTo S s x b → BoundTo S t x b
bound_more S s t x b w h = record { ty = h.ty; flow = h.flow; plain = h.plain; sound = sound_more S s t b w h.sound }

pub agree_more : (S : List SignalInfo) (s t : List ℕ) (known : List Known) (bounds : List Bound) → Within s t → Agree S s known bounds → Agree S t known bounds
agree_more S s t known bounds w a = record {
  names = a.names;
  seen = λ name k e.
      let g : Seen S s bounds name k = a.seen name k e in
      record { thing = g.thing; is = g.is; there = g.there; bound = bound_more S s t g.thing (bound_named name bounds) w g.bound };
}

pub agree_nothing : (S : List SignalInfo) (scope : List ℕ) → Agree S scope [] []
agree_nothing S scope = record { names = λ name e. refl; seen = λ name k e. cc }

-- one more name

record Last {X : Type 0} (P : X → Bool) (xs : List X) (x y : X) : Type 0 where
  before : find P xs ≡ None
  is : P x ≡ true
  same : x ≡ y

some_same : {X : Type 0} (x y : X) → Some x ≡ Some y → x ≡ y
some_same x y e = cc

find_last : {X : Type 0} (P : X → Bool) (xs : List X) (x y : X) → find P (xs ++ x ∷ []) ≡ Some y → (find P xs ≡ Some y) ⊎ Last P xs x y
find_last P [] x y e = step (P x) refl e
  where
    step : (b : Bool) → P x ≡ b → cond b (Some x) None ≡ Some y → (None ≡ Some y) ⊎ Last P [] x y
    step true q k = inr (record { before = refl; is = q; same = some_same x y k })
    step false q k = cc
find_last P (z ∷ zs) x y e = step (P z) refl e (λ k. find_last P zs x y k)
  where
    step : (b : Bool) → P z ≡ b → cond b (Some z) (find P (zs ++ x ∷ [])) ≡ Some y → (find P (zs ++ x ∷ []) ≡ Some y → (find P zs ≡ Some y) ⊎ Last P zs x y)
        → (cond (P z) (Some z) (find P zs) ≡ Some y) ⊎ Last P (z ∷ zs) x y
    step true q k r = inl (ap (λ c. cond c (Some z) (find P zs)) q ∙ k)
    step false q k r =
        ⊎_elim (λ m. inl (ap (λ c. cond c (Some z) (find P zs)) q ∙ m))
        (λ (m : Last P zs x y). inr (record { before = ap (λ c. cond c (Some z) (find P zs)) q ∙ m.before; is = m.is; same = m.same })) (r k)

still_named : (name : List ℕ) (bs : List Bound) (b : Bound) → is_bound name bs ≡ true → bound_named name (bs ++ b ∷ []) ≡ bound_named name bs
still_named name [] b e = cc
still_named name (c ∷ bs) b e = step (bytes_eq c.name name) (still_named name bs b) e
  where
    step : (t : Bool) → (is_bound name bs ≡ true → bound_named name (bs ++ b ∷ []) ≡ bound_named name bs) → (t || is_bound name bs) ≡ true
        → cond t c (bound_named name (bs ++ b ∷ [])) ≡ cond t c (bound_named name bs)
    step true r k = refl
    step false r k = r k

newly_named : (name : List ℕ) (bs : List Bound) (b : Bound) → is_bound name bs ≡ false → bytes_eq b.name name ≡ true → bound_named name (bs ++ b ∷ []) ≡ b
newly_named name [] b e q = ap (λ t. cond t b (bound_named name [])) q
newly_named name (c ∷ bs) b e q =
    ap (λ t. cond t c (bound_named name (bs ++ b ∷ []))) (or_left (bytes_eq c.name name) (is_bound name bs) e) ∙ newly_named name bs b (or_right (bytes_eq c.name name) (is_bound name bs) e) q

still_bound : (name : List ℕ) (bs : List Bound) (b : Bound) → is_bound name bs ≡ true → is_bound name (bs ++ b ∷ []) ≡ true
still_bound name [] b e = cc
still_bound name (c ∷ bs) b e = step (bytes_eq c.name name) (still_bound name bs b) e
  where
    step : (t : Bool) → (is_bound name bs ≡ true → is_bound name (bs ++ b ∷ []) ≡ true) → (t || is_bound name bs) ≡ true → (t || is_bound name (bs ++ b ∷ [])) ≡ true
    step true r k = refl
    step false r k = r k

newly_bound : (name : List ℕ) (bs : List Bound) (b : Bound) → bytes_eq b.name name ≡ true → is_bound name (bs ++ b ∷ []) ≡ true
newly_bound name [] b q = ap (λ t. t || false) q
newly_bound name (c ∷ bs) b q = ap (λ t. bytes_eq c.name name || t) (newly_bound name bs b q) ∙ or_true (bytes_eq c.name name)

not_bound : (name : List ℕ) (bs : List Bound) (b : Bound) → is_bound name bs ≡ false → bytes_eq b.name name ≡ false → is_bound name (bs ++ b ∷ []) ≡ false
not_bound name [] b e q = ap (λ t. t || false) q
not_bound name (c ∷ bs) b e q =
    ap₂ (λ s t. s || t) (or_left (bytes_eq c.name name) (is_bound name bs) e) (not_bound name bs b (or_right (bytes_eq c.name name) (is_bound name bs) e) q)

pub record Undeclared (name : List ℕ) (known : List Known) (k : Known) : Type 0 where
  pub before : is_declared name known ≡ false
  pub last : bytes_eq k.name name ≡ false

pub undeclared_last : (name : List ℕ) (known : List Known) (k : Known) → is_declared name (known ++ k ∷ []) ≡ false → Undeclared name known k
undeclared_last name [] k e = record { before = refl; last = or_left (bytes_eq k.name name) false e }
undeclared_last name (j ∷ known) k e =
    let u : Undeclared name known k = undeclared_last name known k (or_right (bytes_eq j.name name) (is_declared name (known ++ k ∷ [])) e) in
    record { before = ap₂ (λ s t. s || t) (or_left (bytes_eq j.name name) (is_declared name (known ++ k ∷ [])) e) u.before; last = u.last }

and_left : (a b : Bool) → (a && b) ≡ true → a ≡ true
and_left true b e = refl
and_left false b e = cc

pub agree_last : (S : List SignalInfo) (scope : List ℕ) (known : List Known) (bounds : List Bound) (n : List ℕ) (t : Thing) (b : Bound) → Agree S scope known bounds
    → is_declared n known ≡ false → BoundTo S scope t b → b.name ≡ n → Agree S scope (known ++ fresh n (Some t) ∷ []) (bounds ++ b ∷ [])
agree_last S scope known bounds n t b a d h e = record {
  names = λ name u.
      let v : Undeclared name known (fresh n (Some t)) = undeclared_last name known (fresh n (Some t)) u in
      not_bound name bounds b (a.names name v.before) (ap (λ m. bytes_eq m name) e ∙ v.last);
  seen = λ name k f. ⊎_elim (old name k) (new name k) (find_last (λ j. bytes_eq j.name name && j.open_here) known (fresh n (Some t)) k f);
} where
  old : (name : List ℕ) (k : Known) → visible name known ≡ Some k → Seen S scope (bounds ++ b ∷ []) name k
  old name k f =
      let g : Seen S scope bounds name k = a.seen name k f in
      record {
        thing = g.thing;
        is = g.is;
        there = still_bound name bounds b g.there;
        bound = subst (BoundTo S scope g.thing) (sym (still_named name bounds b g.there)) g.bound;
      }

  new : (name : List ℕ) (k : Known) → Last (λ j. bytes_eq j.name name && j.open_here) known (fresh n (Some t)) k → Seen S scope (bounds ++ b ∷ []) name k
  new name k l =
      let q : bytes_eq n name ≡ true = and_left (bytes_eq n name) true l.is in
      let w : n ≡ name = bytes_same n name q in
      let z : bytes_eq b.name name ≡ true = ap (λ m. bytes_eq m name) e ∙ q in
      let no : is_bound name bounds ≡ false = a.names name (ap (λ m. is_declared m known) (sym w) ∙ d) in
      record {
        thing = t;
        is = ap (λ (j : Known). j.meaning) (sym l.same);
        there = newly_bound name bounds b z;
        bound = subst (BoundTo S scope t) (sym (newly_named name bounds b no z)) h;
      }

pub agree_added : (S : List SignalInfo) (scope : List ℕ) (known : List Known) (bounds : List Bound) (n : List ℕ) (t : Thing) (b : Bound) → Agree S scope known bounds
    → is_declared n known ≡ false → BoundTo S scope t b → b.name ≡ n → Agree S scope (added (fresh n (Some t)) known) (bounds ++ b ∷ [])
agree_added S scope known bounds n t b a d h e =
    subst (λ (k : List Known). Agree S scope k (bounds ++ b ∷ [])) (sym (ap (λ c. cond c known (known ++ fresh n (Some t) ∷ [])) d)) (agree_last S scope known bounds n t b a d h e)

-- the end of a block

none_shown : (name : List ℕ) (extra : List Known) → visible name (hide zero extra) ≡ None
none_shown name [] = refl
none_shown name (k ∷ ks) = step (bytes_eq k.name name) (none_shown name ks)
  where
    step : (b : Bool) → visible name (hide zero ks) ≡ None → cond (b && false) (Some (hidden k)) (visible name (hide zero ks)) ≡ None
    step true r = r
    step false r = r

pub same_shown : (name : List ℕ) (known extra : List Known) → visible name (hide (length known) (known ++ extra)) ≡ visible name known
same_shown name [] extra = none_shown name extra
same_shown name (k ∷ known) extra = ap (λ o. cond (bytes_eq k.name name && k.open_here) (Some k) o) (same_shown name known extra)

pub kept_names : (name : List ℕ) (known extra : List Known) → is_declared name (hide (length known) (known ++ extra)) ≡ false → is_declared name known ≡ false
kept_names name [] extra e = refl
kept_names name (k ∷ known) extra e =
    ap₂ (λ s t. s || t) (or_left (bytes_eq k.name name) _ e) (kept_names name known extra (or_right (bytes_eq k.name name) _ e))

pub agree_hidden : (S : List SignalInfo) (scope : List ℕ) (known extra : List Known) (bounds : List Bound) → Agree S scope known bounds
    → Agree S scope (hide (length known) (known ++ extra)) bounds
agree_hidden S scope known extra bounds a = record {
  names = λ name e. a.names name (kept_names name known extra e);
  seen = λ name k e. a.seen name k (sym (same_shown name known extra) ∙ e);
}
