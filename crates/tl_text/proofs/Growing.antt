-- The laws of a value that grows by what follows it.
use Rattle.std.proofs.Common.{◌≡◌, ℕ, zero, suc, ◌≤◌, Bool, true, false, cond, List, [], ◌∷◌, ◌++◌, length, Ok, Err, refl, sym, ap, subst, ◌∙◌, append_assoc, arith, inl, inr, length-append}
use Rattle.std.specs.Prelude.{◌⊎◌, ◌&&◌, ◌||◌}
use Rattle.std.proofs.lemmas.List.{append-nil}
use Rattle.text_grammar.specs.declared.item.Item.{Item}
use Rattle.text_grammar.specs.declared.fault.Kind.{Kind}
use Rattle.text_grammar.specs.declared.fault.Kind.TheVariants.{Syntax}
use Rattle.text_grammar.specs.Part.{Outcome, Part, ◌>>=◌, kind_at, starts}
use Rattle.text_grammar.specs.Fronts.{SameNext, SameUpTo}
use Rattle.text_grammar.proofs.Laws.{Took, Lives, Goes, Stuck, Step, IsRead, Begins, Avoids, Good, Bad, bind_ok, bind_err, ok_parts, same_next_of, same_append, starts_same, starts_front, or_more, closed, starts_closed, avoids_apart}
use Rattle.text_grammar.proofs.Completions.{Fronted}
use Rattle.tl_ast.specs.Limits.{Grows, grow_at, grow}

and_left : (p q : Bool) → (p && q) ≡ true → p ≡ true
and_left true q h = refl
and_left false q h = absurd cc

and_right : (p q : Bool) → (p && q) ≡ true → q ≡ true
and_right true q h = h
and_right false q h = absurd cc

and_none : (p q : Bool) → q ≡ false → (p && q) ≡ false
and_none true q h = h
and_none false q h = refl

both_true : (p q : Bool) → p ≡ true → q ≡ true → (p && q) ≡ true
both_true true q h k = k
both_true false q h k = absurd cc

pub or_parts : (b m : Item → Bool) (r : List Item) → starts (or_more b m) r ≡ false → (starts b r ≡ false) × (starts m r ≡ false)
unfolding or_more
or_parts b m [] h = (refl, refl)
or_parts b m (x ∷ r) h = go (b x) (m x) h
  where
    go : (p q : Bool) → (p || q) ≡ false → (p ≡ false) × (q ≡ false)
    go true q h = absurd cc
    go false q h = (refl, h)

shorter : (b : Item → Bool) (front r : List Item) (n : ℕ) → starts b front ≡ true → length (front ++ r) ≤ suc n → length r ≤ n
shorter b [] r n h le = absurd cc
shorter b (x ∷ front) r n h le = omega (arith, length-append front r)

module _ {A : Type 0} (may : A → Bool) (b : Item → Bool) (reads : A → List Item → Outcome A) where
  grow_stops : (m : ℕ) (a : A) (ts : List Item) → (may a && starts b ts) ≡ false → grow_at may b reads m a ts ≡ Ok (a, ts)
  unfolding grow_at
  grow_stops zero a ts h = refl
  grow_stops (suc m) a ts h = rw h refl

  grow_goes : (m : ℕ) (a : A) (ts : List Item) → (may a && starts b ts) ≡ true → length ts ≤ m → (m' : ℕ) × (m ≡ suc m') × (grow_at may b reads m a ts ≡ (reads a ts >>= λ x. grow_at may b reads m' x.0 x.1))
  unfolding grow_at
  grow_goes m a [] h le = let k = and_right (may a) false h in absurd cc
  grow_goes zero a (x ∷ ts) h le = absurd (omega (arith, le))
  grow_goes (suc m) a (x ∷ ts) h le = (m, refl, rw h refl)

module _ {A : Type 0} {E : Kind → Type 0} {L : Type 0} (may : A → Bool) (b : Item → Bool) (P Q : A → Part A) (s : (a : A) → Step E L (P a) (Q a)) (gp : (a : A) → Begins (P a) b) where
  record GrowTook (a : A) (ts r : List Item) (c : A) : Type 0 where
    pub front : List Item
    pub path : List A
    pub parts : ts ≡ front ++ r
    pub spelled : Grows may (λ d. (P d).spells) a path front c
    pub wider : Grows may (λ d. (Q d).spells) a path front c
    pub again : (m : ℕ) (r' : List Item) → length (front ++ r') ≤ m → SameNext r r' → grow_at may b (λ d. (Q d).reads) m a (front ++ r') ≡ Ok (c, r')

  record GrowStuck (a : A) (ts : List Item) (left' : ℕ) (k : Kind) : Type 0 where
    pub front : List Item
    pub rest : List Item
    pub parts : ts ≡ front ++ rest
    pub left : length rest ≡ left'
    pub fronts : (xs ys : List Item) × (path : List A) × (c : A) × (front ≡ xs ++ ys) × Grows may (λ d. (P d).spells) a path xs c × ((ys ≡ []) ⊎ ((may c ≡ true) × (P c).fronts ys))
    pub why : (k ≡ kind_at rest) ⊎ ((xs ys : List Item) × (path : List A) × (c : A) × (front ≡ xs ++ ys) × Grows may (λ d. (P d).spells) a path xs c × (may c ≡ true) × (P c).passes k ys rest)
    pub goes : L → (ends : List Item) × (value : A) × (path : List A) × Grows may (λ d. (Q d).spells) a path (front ++ ends) value
    pub shown : ℕ
    pub at_once : k ≡ Syntax → shown ≡ 0
    pub again : E k → (m : ℕ) (r' : List Item) → length (front ++ r') ≤ m → SameUpTo shown rest r' → grow_at may b (λ d. (Q d).reads) m a (front ++ r') ≡ Err (k, length r')

  one_turn : (a c z : A) (ts mid r : List Item) → may a ≡ true → Took (P a) (Q a) ts mid c → GrowTook c mid r z → GrowTook a ts r z
  one_turn a c z ts mid r can t u = record {
    front = t.front ++ u.front;
    path = c ∷ u.path;
    parts = t.parts ∙ ap (λ (z : List Item). t.front ++ z) u.parts ∙ sym (append_assoc t.front u.front r);
    spelled = (t.front, u.front, refl, can, t.spelled, u.spelled);
    wider = (t.front, u.front, refl, can, t.wider, u.wider);
    again = λ m r' le same. turn_again m r' (subst (λ (z : List Item). length z ≤ m) (append_assoc t.front u.front r') le) same;
  }
    where
      turn_again : (m : ℕ) (r' : List Item) → length (t.front ++ (u.front ++ r')) ≤ m → SameNext r r' → grow_at may b (λ d. (Q d).reads) m a ((t.front ++ u.front) ++ r') ≡ Ok (z, r')
      turn_again m r' le same =
          let far : SameNext mid (u.front ++ r') = subst (λ (z : List Item). SameNext z (u.front ++ r')) (sym u.parts) (same_append u.front r r' same) in
          let begins = (gp a).begins t.front c t.spelled in
          let g = grow_goes may b (λ d. (Q d).reads) m a (t.front ++ (u.front ++ r')) (both_true (may a) (starts b (t.front ++ (u.front ++ r'))) can (starts_front b t.front (u.front ++ r') begins)) le in
          let le' : length (u.front ++ r') ≤ g.0 = shorter b t.front (u.front ++ r') g.0 begins (subst (λ (z : ℕ). length (t.front ++ (u.front ++ r')) ≤ z) g.1 le) in
          rw (append_assoc t.front u.front r', g.2, t.again (u.front ++ r') far) (u.again g.0 r' le' same)

  grow_stays : (a z : A) (ts r : List Item) → (may a && starts b ts) ≡ false → a ≡ z → ts ≡ r → GrowTook a ts r z
  grow_stays a z ts r h is same_items = record {
    front = [];
    path = [];
    parts = same_items;
    spelled = (refl, sym is);
    wider = (refl, sym is);
    again = λ m r' le same.
        (let no : (may a && starts b r') ≡ false = ap (λ (q : Bool). may a && q) (sym (starts_same b r r' same) ∙ ap (starts b) (sym same_items)) ∙ h in
        grow_stops may b (λ d. (Q d).reads) m a r' no ∙ ap (λ (y : A). Good (y, r')) is);
  }

  grow_turn : (n : ℕ) → ((a : A) (ts r : List Item) (z : A) → length ts ≤ n → grow_at may b (λ d. (P d).reads) n a ts ≡ Good (z, r) → GrowTook a ts r z)
      → (c : Bool) (a : A) (ts r : List Item) (z : A) → (may a && starts b ts) ≡ c → length ts ≤ suc n → cond c ((P a).reads ts >>= λ x. grow_at may b (λ d. (P d).reads) n x.0 x.1) (Ok (a, ts)) ≡ Good (z, r) → GrowTook a ts r z
  grow_turn n rec true a ts r z h le e =
      let one = bind_ok ((P a).reads ts) (λ x. grow_at may b (λ d. (P d).reads) n x.0 x.1) (z, r) e in
      let t = (s a).done ts one.0.1 one.0.0 one.1 in
      let le' : length one.0.1 ≤ n = shorter b t.front one.0.1 n ((gp a).begins t.front one.0.0 t.spelled) (subst (λ (z : List Item). length z ≤ suc n) t.parts le) in
      one_turn a one.0.0 z ts one.0.1 r (and_left (may a) (starts b ts) h) t (rec one.0.0 one.0.1 r z le' one.2)
  grow_turn n rec false a ts r z h le e = let is = ok_parts a z ts r e in grow_stays a z ts r h is.0 is.1

  grow_done : (n : ℕ) (a : A) (ts r : List Item) (z : A) → length ts ≤ n → grow_at may b (λ d. (P d).reads) n a ts ≡ Good (z, r) → GrowTook a ts r z
  unfolding grow_at
  grow_done zero a [] r z le e = let is = ok_parts a z [] r e in grow_stays a z [] r (and_none (may a) false refl) is.0 is.1
  grow_done zero a (x ∷ ts) r z le e = absurd (omega (arith, le))
  grow_done (suc n) a ts r z le e = grow_turn n (grow_done n) (may a && starts b ts) a ts r z refl le e

  stuck_now : (a : A) (ts : List Item) (n : ℕ) (k : Kind) → may a ≡ true → starts b ts ≡ true → Stuck E L (P a) (Q a) ts n k → GrowStuck a ts n k
  stuck_now a ts n k can h t = record {
    front = t.front;
    rest = t.rest;
    parts = t.parts;
    left = t.left;
    fronts = ([], t.front, [], a, refl, (refl, refl), inr (can, t.fronts));
    why = elim t.why [ inl q ↦ inl q | inr q ↦ inr ([], t.front, [], a, refl, (refl, refl), can, q) ];
    goes = λ y. (let g = t.goes y in (g.ends, g.value, g.value ∷ [], (t.front ++ g.ends, [], sym (append-nil (t.front ++ g.ends)), can, g.spelled, (refl, refl))));
    shown = t.shown;
    at_once = t.at_once;
    again = λ y m r' le same.
        (let on : starts b (t.front ++ r') ≡ true = sym (starts_same b (t.front ++ t.rest) (t.front ++ r') (same_append t.front t.rest r' (same_next_of t.shown t.rest r' same))) ∙ ap (starts b) (sym t.parts) ∙ h in
        let g = grow_goes may b (λ d. (Q d).reads) m a (t.front ++ r') (both_true (may a) (starts b (t.front ++ r')) can on) le in
        rw (g.2, t.again y r' same) refl);
  }

  stuck_later : (a c : A) (ts mid : List Item) (n : ℕ) (k : Kind) → may a ≡ true → Took (P a) (Q a) ts mid c → GrowStuck c mid n k → GrowStuck a ts n k
  stuck_later a c ts mid n k can t u = record {
    front = t.front ++ u.front;
    rest = u.rest;
    parts = t.parts ∙ ap (λ (z : List Item). t.front ++ z) u.parts ∙ sym (append_assoc t.front u.front u.rest);
    left = u.left;
    fronts = (let q = u.fronts in (t.front ++ q.0, q.1, c ∷ q.2, q.3, ap (λ (z : List Item). t.front ++ z) q.4 ∙ sym (append_assoc t.front q.0 q.1), (t.front, q.0, refl, can, t.spelled, q.5), q.6));
    why = elim u.why [ inl q ↦ inl q | inr q ↦ inr (t.front ++ q.0, q.1, c ∷ q.2, q.3, ap (λ (z : List Item). t.front ++ z) q.4 ∙ sym (append_assoc t.front q.0 q.1), (t.front, q.0, refl, can, t.spelled, q.5), q.6, q.7) ];
    goes = λ y. (let g = u.goes y in (g.0, g.1, c ∷ g.2, (t.front, u.front ++ g.0, append_assoc t.front u.front g.0, can, t.wider, g.3)));
    shown = u.shown;
    at_once = u.at_once;
    again = λ y m r' le same. later_again y m r' (subst (λ (z : List Item). length z ≤ m) (append_assoc t.front u.front r') le) same;
  }
    where
      later_again : E k → (m : ℕ) (r' : List Item) → length (t.front ++ (u.front ++ r')) ≤ m → SameUpTo u.shown u.rest r' → grow_at may b (λ d. (Q d).reads) m a ((t.front ++ u.front) ++ r') ≡ Err (k, length r')
      later_again y m r' le same =
          let far : SameNext mid (u.front ++ r') = subst (λ (z : List Item). SameNext z (u.front ++ r')) (sym u.parts) (same_append u.front u.rest r' (same_next_of u.shown u.rest r' same)) in
          let begins = (gp a).begins t.front c t.spelled in
          let g = grow_goes may b (λ d. (Q d).reads) m a (t.front ++ (u.front ++ r')) (both_true (may a) (starts b (t.front ++ (u.front ++ r'))) can (starts_front b t.front (u.front ++ r') begins)) le in
          let le' : length (u.front ++ r') ≤ g.0 = shorter b t.front (u.front ++ r') g.0 begins (subst (λ (z : ℕ). length (t.front ++ (u.front ++ r')) ≤ z) g.1 le) in
          rw (append_assoc t.front u.front r', g.2, t.again (u.front ++ r') far) (u.again y g.0 r' le' same)

  turn_fails : (n : ℕ) → ((a : A) (ts : List Item) (l : ℕ) (k : Kind) → length ts ≤ n → grow_at may b (λ d. (P d).reads) n a ts ≡ Bad (k, l) → GrowStuck a ts l k)
      → (c : Bool) (a : A) (ts : List Item) (l : ℕ) (k : Kind) → (may a && starts b ts) ≡ c → length ts ≤ suc n → cond c ((P a).reads ts >>= λ x. grow_at may b (λ d. (P d).reads) n x.0 x.1) (Ok (a, ts)) ≡ Bad (k, l) → GrowStuck a ts l k
  turn_fails n rec true a ts l k h le e = elim (bind_err ((P a).reads ts) (λ x. grow_at may b (λ d. (P d).reads) n x.0 x.1) (k, l) e) [
    | inl first ↦ stuck_now a ts l k (and_left (may a) (starts b ts) h) (and_right (may a) (starts b ts) h) ((s a).fails ts l k first)
    | inr later ↦
        let t = (s a).done ts later.0.1 later.0.0 later.1 in
        let le' : length later.0.1 ≤ n = shorter b t.front later.0.1 n ((gp a).begins t.front later.0.0 t.spelled) (subst (λ (z : List Item). length z ≤ suc n) t.parts le) in
        stuck_later a later.0.0 ts later.0.1 l k (and_left (may a) (starts b ts) h) t (rec later.0.0 later.0.1 l k le' later.2)
  ]
  turn_fails n rec false a ts l k h le e = absurd cc

  grow_fails : (n : ℕ) (a : A) (ts : List Item) (l : ℕ) (k : Kind) → length ts ≤ n → grow_at may b (λ d. (P d).reads) n a ts ≡ Bad (k, l) → GrowStuck a ts l k
  unfolding grow_at
  grow_fails zero a ts l k le e = absurd cc
  grow_fails (suc n) a ts l k le e = turn_fails n (grow_fails n) (may a && starts b ts) a ts l k refl le e

  took_whole : (a : A) (ts r : List Item) (c : A) → GrowTook a ts r c → Took (grow may b P a) (grow may b Q a) ts r c
  unfolding grow
  took_whole a ts r c t = record { front = t.front; parts = t.parts; spelled = (t.path, t.spelled); wider = (t.path, t.wider); again = λ r' same. t.again (length (t.front ++ r')) r' (omega arith) same }

  stuck_whole : (a : A) (ts : List Item) (n : ℕ) (k : Kind) → GrowStuck a ts n k → Stuck E L (grow may b P a) (grow may b Q a) ts n k
  unfolding grow
  stuck_whole a ts n k t = record {
    front = t.front;
    rest = t.rest;
    parts = t.parts;
    left = t.left;
    fronts = t.fronts;
    why = t.why;
    goes = λ y. (let g = t.goes y in record { ends = g.0; value = g.1; spelled = (g.2, g.3) });
    shown = t.shown;
    at_once = t.at_once;
    again = λ y r' same. t.again y (length (t.front ++ r')) r' (omega arith) same;
  }

  pub grow_step : (a : A) → Step E L (grow may b P a) (grow may b Q a)
  unfolding grow
  grow_step a = record {
    done = λ ts r c e. took_whole a ts r c (grow_done (length ts) a ts r c (omega arith) e);
    fails = λ ts n k e. stuck_whole a ts n k (grow_fails (length ts) a ts n k (omega arith) e);
    lives = λ _. record { text = []; value = a; spelled = ([], (refl, refl)) };
  }

pub grow_lives : {A : Type 0} (may : A → Bool) (b : Item → Bool) (Q : A → Part A) (a : A) → Lives (grow may b Q a)
unfolding grow
grow_lives may b Q a = record { text = []; value = a; spelled = ([], (refl, refl)) }

-- ---- what is spelled so is read

module _ {A : Type 0} (may : A → Bool) (b : Item → Bool) (P : A → Part A) (gp : (a : A) → Begins (P a) b) where
  further_off : (c : Item → Bool) → ((x : Item) → b x ≡ true → c x ≡ false) → (a z : A) (path : List A) (ts r : List Item) → Grows may (λ d. (P d).spells) a path ts z → starts c r ≡ false → starts c (ts ++ r) ≡ false
  further_off c apart a z [] ts r g h = rw g.0 h
  further_off c apart a z (d ∷ path) ts r g h = rw (g.2, append_assoc g.0 g.1 r) ((avoids_apart (P a) b c closed (gp a) apart).avoids g.0 (g.1 ++ r) d g.4 (starts_closed (g.1 ++ r)))

  grow_reads : (m : Item → Bool) → ((a : A) → IsRead (P a) m) → ((x : Item) → b x ≡ true → m x ≡ false)
      → (path : List A) (n : ℕ) (a z : A) (ts r : List Item) → length (ts ++ r) ≤ n → Grows may (λ d. (P d).spells) a path ts z → starts b r ≡ false → starts m r ≡ false → grow_at may b (λ d. (P d).reads) n a (ts ++ r) ≡ Ok (z, r)
  grow_reads m i apart [] n a z ts r le g sb sm = rw (g.0, g.1) (grow_stops may b (λ d. (P d).reads) n a r (and_none (may a) (starts b r) sb))
  grow_reads m i apart (d ∷ path) n a z ts r le g sb sm =
      let xs = g.0 in
      let ys = g.1 in
      let whole : ts ++ r ≡ xs ++ (ys ++ r) = ap (λ (q : List Item). q ++ r) g.2 ∙ append_assoc xs ys r in
      let begins = (gp a).begins xs d g.4 in
      let le2 : length (xs ++ (ys ++ r)) ≤ n = subst (λ (q : List Item). length q ≤ n) whole le in
      let t = grow_goes may b (λ d. (P d).reads) n a (xs ++ (ys ++ r)) (both_true (may a) (starts b (xs ++ (ys ++ r))) g.3 (starts_front b xs (ys ++ r) begins)) le2 in
      let le3 : length (ys ++ r) ≤ t.0 = shorter b xs (ys ++ r) t.0 begins (subst (λ (q : ℕ). length (xs ++ (ys ++ r)) ≤ q) t.1 le2) in
      rw (whole, t.2, (i a).read xs (ys ++ r) d g.4 (further_off m apart d z path ys r g.5 sm)) (grow_reads m i apart path t.0 d z ys r le3 g.5 sb sm)

  pub grow_read : (m : Item → Bool) → ((a : A) → IsRead (P a) m) → ((x : Item) → b x ≡ true → m x ≡ false) → (a : A) → IsRead (grow may b P a) (or_more b m)
  unfolding grow
  grow_read m i apart a = record { read = λ ts r z sp stops. (let h = or_parts b m r stops in grow_reads m i apart sp.0 (length (ts ++ r)) a z ts r (omega arith) sp.1 h.0 h.1) }

  pub grow_avoids : (c m : Item → Bool) → ((x : Item) → b x ≡ true → c x ≡ false) → ((r : List Item) → starts m r ≡ false → starts c r ≡ false) → (a : A) → Avoids (grow may b P a) c m
  unfolding grow
  grow_avoids c m apart rest a = record { avoids = λ ts r z sp stops. further_off c apart a z sp.0 ts r sp.1 (rest r stops) }

-- ---- fronts

no_front : (ts ends : List Item) → ts ++ ends ≡ [] → ts ≡ []
no_front [] ends e = refl
no_front (t ∷ ts) ends e = absurd cc

split_two : (ts ends xs ys : List Item) → ts ++ ends ≡ xs ++ ys → ((zs : List Item) × (xs ≡ ts ++ zs)) ⊎ ((zs : List Item) × (ts ≡ xs ++ zs) × (ys ≡ zs ++ ends))
split_two [] ends xs ys e = inl (xs, refl)
split_two (t ∷ ts) ends [] ys e = inr (t ∷ ts, refl, sym e)
split_two (t ∷ ts) ends (x ∷ xs) ys e =
    let head : t ≡ x = cc in
    let tail : ts ++ ends ≡ xs ++ ys = cc in
    elim (split_two ts ends xs ys tail) [
      | inl h ↦ inl (h.0, ap (λ (z : Item). z ∷ xs) (sym head) ∙ ap (λ (z : List Item). t ∷ z) h.1)
      | inr h ↦ inr (h.0, ap (λ (z : Item). z ∷ ts) head ∙ ap (λ (z : List Item). x ∷ z) h.1, h.2)
    ]

module _ {A : Type 0} (may : A → Bool) (P Q : A → Part A) (h : (a : A) → Fronted (P a) (Q a)) where
  grows_wider : (path : List A) (a z : A) (ts : List Item) → Grows may (λ d. (P d).spells) a path ts z → Grows may (λ d. (Q d).spells) a path ts z
  grows_wider [] a z ts g = g
  grows_wider (d ∷ path) a z ts g = (g.0, g.1, g.2, g.3, (h a).wider g.0 d g.4, grows_wider path d z g.1 g.5)

  grows_on : (path : List A) (a c z : A) (xs ys : List Item) → Grows may (λ d. (Q d).spells) a path xs c → may c ≡ true → (Q c).spells ys z → (all : List A) × Grows may (λ d. (Q d).spells) a all (xs ++ ys) z
  grows_on [] a c z xs ys g can sp = (z ∷ [], (ys, [], ap (λ (q : List Item). q ++ ys) g.0 ∙ sym (append-nil ys), subst (λ (q : A). may q ≡ true) g.1 can, subst (λ (q : A). (Q q).spells ys z) g.1 sp, (refl, refl)))
  grows_on (d ∷ path) a c z xs ys g can sp =
      let r = grows_on path d c z g.1 ys g.5 can sp in
      (d ∷ r.0, (g.0, g.1 ++ ys, ap (λ (q : List Item). q ++ ys) g.2 ∙ append_assoc g.0 g.1 ys, g.3, g.4, r.1))

  pub GrowFront : A → List Item → Type 0
  GrowFront a ts = (xs ys : List Item) × (path : List A) × (c : A) × (ts ≡ xs ++ ys) × Grows may (λ d. (P d).spells) a path xs c × ((ys ≡ []) ⊎ ((may c ≡ true) × (P c).fronts ys))

  grow_begins : (path : List A) (a z : A) (ts ends : List Item) → Grows may (λ d. (P d).spells) a path (ts ++ ends) z → GrowFront a ts
  unfolding GrowFront
  grow_begins [] a z ts ends g = ([], ts, [], a, refl, (refl, refl), inl (no_front ts ends g.0))
  grow_begins (d ∷ path) a z ts ends g = elim (split_two ts ends g.0 g.1 g.2) [
    | inl e ↦ ([], ts, [], a, refl, (refl, refl), inr (g.3, (h a).begins ts e.0 d (subst (λ (q : List Item). (P a).spells q d) e.1 g.4)))
    | inr e ↦
        let r = grow_begins path d z e.0 ends (subst (λ (q : List Item). Grows may (λ d. (P d).spells) d path q z) e.2 g.5) in
        (g.0 ++ r.0, r.1, d ∷ r.2, r.3, e.1 ∙ ap (λ (q : List Item). g.0 ++ q) r.4 ∙ sym (append_assoc g.0 r.0 r.1), (g.0, r.0, refl, g.3, g.4, r.5), r.6)
  ]

  grow_completes : (b : Item → Bool) (a : A) (ts : List Item) → GrowFront a ts → Goes (grow may b Q a) ts
  unfolding GrowFront grow
  grow_completes b a ts f = elim f.6 [
    | inl e ↦ record { ends = []; value = f.3; spelled = (f.2, subst (λ (q : List Item). Grows may (λ d. (Q d).spells) a f.2 q f.3) (sym (append-nil ts ∙ f.4 ∙ ap (λ (q : List Item). f.0 ++ q) e ∙ append-nil f.0)) (grows_wider f.2 a f.3 f.0 f.5)) }
    | inr e ↦
        let g = (h f.3).completes f.1 e.1 in
        let r = grows_on f.2 a f.3 g.value f.0 (f.1 ++ g.ends) (grows_wider f.2 a f.3 f.0 f.5) e.0 g.spelled in
        record { ends = g.ends; value = g.value; spelled = (r.0, subst (λ (q : List Item). Grows may (λ d. (Q d).spells) a r.0 q g.value) (sym (ap (λ (q : List Item). q ++ g.ends) f.4 ∙ append_assoc f.0 f.1 g.ends)) r.1) }
  ]

  pub grow_fronted : (b : Item → Bool) (a : A) → Fronted (grow may b P a) (grow may b Q a)
  unfolding grow GrowFront
  grow_fronted b a = record { completes = λ ts f. grow_completes b a ts f; begins = λ ts ends z sp. grow_begins sp.0 a z ts ends sp.1; wider = λ ts z sp. (sp.0, grows_wider sp.0 a z ts sp.1) }
