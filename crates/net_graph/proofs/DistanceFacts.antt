-- Distances level by level.
use Rattle.std.proofs.Common.{◌≡◌, ◌∙◌, sym, ap, subst, ℕ, zero, suc, ◌+◌, ◌<◌, ◌≤◌, Bool, true, false, List, [], ◌∷◌, ◌++◌, nat_eq, ◌⊎◌, inl, inr, refl, arith, ⊎_elim, length, set, replicate, take, get_or, if◌then◌else◌}
use Rattle.std.proofs.lemmas.Bool.{or_cases, or_left, or_right, eq-eqb, eqb-true, cases_eq, ne_eqb}
use Rattle.std.proofs.lemmas.List.{length-set}
use Rattle.std.specs.declared.vec.Vec.{Vec}
use Rattle.std.specs.declared.alloc.Global.{Global}
use Rattle.net_core.specs.Rules.{has}
use Rattle.net_graph.specs.Readers.{in_row}
use Rattle.net_graph.specs.Distances.{distance_of, unreached, EntryReaches, RowReads, ReadsFront, Level, Spread, AllEntered, Measures}
use Rattle.net_graph.proofs.HasFacts.{has_append, has_head, has_take, has_wider, has_newest}
use Rattle.net_graph.proofs.MarkFacts.{no_mark}

dist_same : (D : List ℕ) (far x v : ℕ) → x < length D → distance_of (set D x v) far x ≡ v
dist_same [] far x v h = absurd (omega arith)
dist_same (d ∷ ds) far zero v h = refl
dist_same (d ∷ ds) far (suc x) v h = dist_same ds far x v (omega arith)

dist_other : (D : List ℕ) (far x y v : ℕ) → (y ≡ x → ⊥) → distance_of (set D x v) far y ≡ distance_of D far y
dist_other [] far x y v h = refl
dist_other (d ∷ ds) far zero zero v h = absurd (h refl)
dist_other (d ∷ ds) far zero (suc y) v h = refl
dist_other (d ∷ ds) far (suc x) zero v h = refl
dist_other (d ∷ ds) far (suc x) (suc y) v h = dist_other ds far x y v (λ e. h (ap suc e))

abbrev one_if : Bool → ℕ
one_if b = if b then 1 else 0

unreached_set : (D : List ℕ) (far x v : ℕ) → x < length D → distance_of D far x ≡ far → (v ≡ far → ⊥) → suc (unreached far (set D x v)) ≡ unreached far D
unreached_set [] far x v h e n = absurd (omega arith)
unreached_set (d ∷ ds) far zero v h e n =
    let a : one_if (nat_eq v far) ≡ 0 = ap one_if (ne_eqb v far n) in
    let b : one_if (nat_eq d far) ≡ 1 = ap one_if (eq-eqb d far e) in
    omega (arith, a, b)
unreached_set (d ∷ ds) far (suc x) v h e n =
    let r : suc (unreached far (set ds x v)) ≡ unreached far ds = unreached_set ds far x v (omega arith) e n in
    omega (arith, r)

unreached_some : (D : List ℕ) (far x : ℕ) → x < length D → distance_of D far x ≡ far → 1 ≤ unreached far D
unreached_some [] far x h e = absurd (omega arith)
unreached_some (d ∷ ds) far zero h e = let b : one_if (nat_eq d far) ≡ 1 = ap one_if (eq-eqb d far e) in omega (arith, b)
unreached_some (d ∷ ds) far (suc x) h e = let r : 1 ≤ unreached far ds = unreached_some ds far x (omega arith) e in omega (arith, r)

length_more : (xs : List ℕ) (x : ℕ) → length (xs ++ x ∷ []) ≡ suc (length xs)
length_more [] x = refl
length_more (a ∷ rest) x = ap suc (length_more rest x)

last_has : (xs : List ℕ) (x : ℕ) → has (xs ++ x ∷ []) x ≡ true
last_has xs x = has_append xs (x ∷ []) x ∙ or_right (has xs x) (has (x ∷ []) x) (has_head x [])

kept_has : (xs : List ℕ) (x k : ℕ) → has xs k ≡ true → has (xs ++ x ∷ []) k ≡ true
kept_has xs x k h = has_append xs (x ∷ []) k ∙ or_left (has xs k) (has (x ∷ []) k) h

new_has : (xs : List ℕ) (x k : ℕ) → has (xs ++ x ∷ []) k ≡ true → (has xs k ≡ true) ⊎ (k ≡ x)
new_has xs x k h = ⊎_elim (λ a. inl a) (λ b. ⊎_elim (λ e. inr (eqb-true k x e)) (λ n. absurd cc) (or_cases (nat_eq k x) false b))
    (or_cases (has xs k) (has (x ∷ []) k) (sym (has_append xs (x ∷ []) k) ∙ h))

in_none : (x : ℕ) → has [] x ≡ true → ⊥
in_none x h = cc

-- ---- one number
no_more : (n : ℕ) → n ≤ n
no_more n = omega arith

-- the number had none
pub reach_new : (far level x : ℕ) (D next : List ℕ) → x < length D → distance_of D far x ≡ far → level + unreached far D ≤ far → ((k : ℕ) → distance_of D far k ≤ far)
    → Spread (λ k. k ≡ x) far level D next (set D x level) (next ++ x ∷ [])
reach_new far level x D next h e m b = record {
  places = length-set D x level;
  bounded = λ k. bounded_at k (cases_eq k x);
  each = λ k. each_at k (cases_eq k x);
  all = λ k q. subst (λ t. distance_of (set D x level) far t < far) (sym q) (subst (λ t. t < far) (sym same) inside);
  of_next = λ k q. of_next_at k q (cases_eq k x);
  kept = λ k q. kept_has next x k q;
  count = let t : suc (unreached far (set D x level)) ≡ unreached far D = one_less in let l : length (next ++ x ∷ []) ≡ suc (length next) = length_more next x in omega (arith, t, l);
  fewer = let t : suc (unreached far (set D x level)) ≡ unreached far D = one_less in omega (arith, t);
}
  where
    inside : level < far
    inside = let o : 1 ≤ unreached far D = unreached_some D far x h e in omega (arith, o, m)

    not_far : level ≡ far → ⊥
    not_far q = let i : level < far = inside in absurd (omega (arith, i, q))

    one_less : suc (unreached far (set D x level)) ≡ unreached far D
    one_less = unreached_set D far x level h e not_far

    same : distance_of (set D x level) far x ≡ level
    same = dist_same D far x level h

    level_at : (k : ℕ) → k ≡ x → distance_of (set D x level) far k ≡ level
    level_at k q = subst (λ t. distance_of (set D x level) far t ≡ level) (sym q) same

    bounded_at : (k : ℕ) → (k ≡ x) ⊎ (k ≡ x → ⊥) → distance_of (set D x level) far k ≤ far
    bounded_at k (inl q) = let a : distance_of (set D x level) far k ≡ level = level_at k q in let i : level < far = inside in omega (arith, a, i)
    bounded_at k (inr n) = let a : distance_of (set D x level) far k ≡ distance_of D far k = dist_other D far x k level n in let c : distance_of D far k ≤ far = b k in omega (arith, a, c)

    each_at : (k : ℕ) → (k ≡ x) ⊎ (k ≡ x → ⊥) → (distance_of (set D x level) far k ≡ distance_of D far k)
        ⊎ ((distance_of D far k ≡ far) × (distance_of (set D x level) far k ≡ level) × (has (next ++ x ∷ []) k ≡ true) × (k ≡ x))
    each_at k (inl q) = inr (subst (λ t. distance_of D far t ≡ far) (sym q) e, level_at k q, subst (λ t. has (next ++ x ∷ []) t ≡ true) (sym q) (last_has next x), q)
    each_at k (inr n) = inl (dist_other D far x k level n)

    of_next_at : (k : ℕ) → has (next ++ x ∷ []) k ≡ true → (k ≡ x) ⊎ (k ≡ x → ⊥) → (has next k ≡ true) ⊎ (distance_of (set D x level) far k ≡ level)
    of_next_at k q (inl a) = inr (level_at k a)
    of_next_at k q (inr n) = ⊎_elim (λ a. inl a) (λ a. absurd (n a)) (new_has next x k q)

-- ---- steps one after another
pub spread_none : (P : ℕ → Type 0) (far level : ℕ) (D next : List ℕ) → ((k : ℕ) → distance_of D far k ≤ far) → ((k : ℕ) → P k → distance_of D far k < far) → Spread P far level D next D next
spread_none P far level D next b all = record {
  places = refl;
  bounded = b;
  each = λ k. inl refl;
  all = all;
  of_next = λ k h. inl h;
  kept = λ k h. h;
  count = refl;
  fewer = no_more (unreached far D);
}

pub spread_map : (P Q : ℕ → Type 0) (far level : ℕ) (D first E next : List ℕ) → ((k : ℕ) → P k → Q k) → ((k : ℕ) → Q k → P k) → Spread P far level D first E next → Spread Q far level D first E next
spread_map P Q far level D first E next f g s = record {
  places = s.places;
  bounded = s.bounded;
  each = λ k. ⊎_elim (λ a. inl a) (λ a. inr (a.0, a.1, a.2, f k a.3)) (s.each k);
  all = λ k q. s.all k (g k q);
  of_next = s.of_next;
  kept = s.kept;
  count = s.count;
  fewer = s.fewer;
}

-- a step takes no distance away
pub spread_keeps : (P : ℕ → Type 0) (far level : ℕ) (D first E next : List ℕ) → Spread P far level D first E next → (k : ℕ) → distance_of D far k < far → distance_of E far k < far
spread_keeps P far level D first E next s k h = ⊎_elim
    (λ a. subst (λ q. q < far) (sym a) h)
    (λ a. let b : distance_of D far k ≡ far = a.0 in absurd (omega (arith, b, h)))
    (s.each k)

pub spread_on : (P Q R : ℕ → Type 0) (far level : ℕ) (D0 n0 D1 n1 D2 n2 : List ℕ) → ((k : ℕ) → P k → R k) → ((k : ℕ) → Q k → R k) → ((k : ℕ) → R k → P k ⊎ Q k)
    → Spread P far level D0 n0 D1 n1 → Spread Q far level D1 n1 D2 n2 → Spread R far level D0 n0 D2 n2
spread_on P Q R far level D0 n0 D1 n1 D2 n2 p q r s t = record {
  places = t.places ∙ s.places;
  bounded = t.bounded;
  each = λ k. each_at k (s.each k) (t.each k);
  all = λ k h. ⊎_elim (λ a. spread_keeps Q far level D1 n1 D2 n2 t k (s.all k a)) (λ a. t.all k a) (r k h);
  of_next = λ k h. ⊎_elim (λ a. ⊎_elim (λ b. inl b) (λ b. inr (still k b (t.each k))) (s.of_next k a)) (λ a. inr a) (t.of_next k h);
  kept = λ k h. t.kept k (s.kept k h);
  count = let a : unreached far D1 + length n1 ≡ unreached far D0 + length n0 = s.count in let b : unreached far D2 + length n2 ≡ unreached far D1 + length n1 = t.count in omega (arith, a, b);
  fewer = let a : unreached far D1 ≤ unreached far D0 = s.fewer in let b : unreached far D2 ≤ unreached far D1 = t.fewer in omega (arith, a, b);
}
  where
    each_at : (k : ℕ) → (distance_of D1 far k ≡ distance_of D0 far k) ⊎ ((distance_of D0 far k ≡ far) × (distance_of D1 far k ≡ level) × (has n1 k ≡ true) × P k)
        → (distance_of D2 far k ≡ distance_of D1 far k) ⊎ ((distance_of D1 far k ≡ far) × (distance_of D2 far k ≡ level) × (has n2 k ≡ true) × Q k)
        → (distance_of D2 far k ≡ distance_of D0 far k) ⊎ ((distance_of D0 far k ≡ far) × (distance_of D2 far k ≡ level) × (has n2 k ≡ true) × R k)
    each_at k (inl a) (inl b) = inl (b ∙ a)
    each_at k (inr a) (inl b) = inr (a.0, b ∙ a.1, t.kept k a.2, p k a.3)
    each_at k (inl a) (inr b) = inr (sym a ∙ b.0, b.1, b.2, q k b.3)
    each_at k (inr a) (inr b) = inr (a.0, b.1, b.2, q k b.3)

    still : (k : ℕ) → distance_of D1 far k ≡ level → (distance_of D2 far k ≡ distance_of D1 far k) ⊎ ((distance_of D1 far k ≡ far) × (distance_of D2 far k ≡ level) × (has n2 k ≡ true) × Q k) → distance_of D2 far k ≡ level
    still k h (inl a) = a ∙ h
    still k h (inr a) = a.1

-- ---- over a list of numbers
abbrev pub OwnIn : ℕ → List ℕ → ℕ → Type 0
OwnIn own list k = (k < own) × (has list k ≡ true)

pub list_reached : (own level : ℕ) (list : List ℕ) (i : ℕ) (D0 n0 D1 n1 D2 n2 : List ℕ) → i < length list → get_or list i 0 < own
    → Spread (OwnIn own (take i list)) own level D0 n0 D1 n1 → Spread (λ k. k ≡ get_or list i 0) own level D1 n1 D2 n2 → Spread (OwnIn own (take (i + 1) list)) own level D0 n0 D2 n2
list_reached own level list i D0 n0 D1 n1 D2 n2 h o s t =
    spread_on (OwnIn own (take i list)) (λ k. k ≡ get_or list i 0) (OwnIn own (take (i + 1) list)) own level D0 n0 D1 n1 D2 n2
    (λ k a. (a.0, has_wider list i k a.1))
    (λ k e. (subst (λ q. q < own) (sym e) o, subst (λ q. has (take (i + 1) list) q ≡ true) (sym e) (has_newest list i 0 h)))
    (λ k a. ⊎_elim (λ b. inl (a.0, b)) (λ e. inr e) (has_take list i 0 k h a.1))
    s t

pub list_passed : (own level : ℕ) (list : List ℕ) (i : ℕ) (D0 n0 D1 n1 : List ℕ) → i < length list → own ≤ get_or list i 0
    → Spread (OwnIn own (take i list)) own level D0 n0 D1 n1 → Spread (OwnIn own (take (i + 1) list)) own level D0 n0 D1 n1
list_passed own level list i D0 n0 D1 n1 h o s =
    spread_map (OwnIn own (take i list)) (OwnIn own (take (i + 1) list)) own level D0 n0 D1 n1
    (λ k a. (a.0, has_wider list i k a.1))
    (λ k a. ⊎_elim (λ b. (a.0, b)) (λ e. absurd (let l : k < own = a.0 in omega (arith, l, e, o))) (has_take list i 0 k h a.1))
    s

abbrev Rows : Type 0
Rows = List (Vec ℕ Global)

-- ---- over the entries of a row
abbrev pub RowReaches : Rows → ℕ → List ℕ → ℕ → Type 0
RowReaches rows own row k = (x : ℕ) × (has row x ≡ true) × EntryReaches rows own x k

pub row_more : (rows : Rows) (own level : ℕ) (row : List ℕ) (i : ℕ) (D0 n0 D1 n1 D2 n2 : List ℕ) → i < length row
    → Spread (RowReaches rows own (take i row)) own level D0 n0 D1 n1 → Spread (EntryReaches rows own (get_or row i 0)) own level D1 n1 D2 n2
    → Spread (RowReaches rows own (take (i + 1) row)) own level D0 n0 D2 n2
row_more rows own level row i D0 n0 D1 n1 D2 n2 h s t =
    spread_on (RowReaches rows own (take i row)) (EntryReaches rows own (get_or row i 0)) (RowReaches rows own (take (i + 1) row)) own level D0 n0 D1 n1 D2 n2
    (λ k a. (a.0, has_wider row i a.0 a.1, a.2))
    (λ k a. (get_or row i 0, has_newest row i 0 h, a))
    (λ k a. ⊎_elim (λ b. inl (a.0, b, a.2)) (λ e. inr (subst (λ q. EntryReaches rows own q k) e a.2)) (has_take row i 0 a.0 h a.1))
    s t

-- ---- over the front
pub front_more : (rows : Rows) (own level : ℕ) (front row : List ℕ) (i : ℕ) (D0 n0 D1 n1 D2 n2 : List ℕ) → i < length front → ((k : ℕ) → has row k ≡ in_row rows (get_or front i 0) k)
    → Spread (ReadsFront (RowReads rows own) (take i front)) own level D0 n0 D1 n1 → Spread (RowReaches rows own row) own level D1 n1 D2 n2
    → Spread (ReadsFront (RowReads rows own) (take (i + 1) front)) own level D0 n0 D2 n2
front_more rows own level front row i D0 n0 D1 n1 D2 n2 h r s t =
    spread_on (ReadsFront (RowReads rows own) (take i front)) (RowReaches rows own row) (ReadsFront (RowReads rows own) (take (i + 1) front)) own level D0 n0 D1 n1 D2 n2
    (λ k a. (a.0, has_wider front i a.0 a.1, a.2))
    (λ k a. (get_or front i 0, has_newest front i 0 h, (a.0, sym (r a.0) ∙ a.1, a.2)))
    (λ k a. ⊎_elim
    (λ b. inl (a.0, b, a.2))
    (λ e. let g : RowReads rows own k (get_or front i 0) = subst (λ q. RowReads rows own k q) e a.2 in inr (g.0, r g.0 ∙ g.1, g.2))
    (has_take front i 0 a.0 h a.1))
    s t

pub none_entered : (rows : Rows) (own n : ℕ) (D : List ℕ) → AllEntered rows own (replicate n false) D
none_entered rows own n D c k m = absurd (no_mark n c m)

-- ---- from one level to the next
abbrev Fate : (ℕ → ℕ → Type 0) → (far level : ℕ) → (D front E next : List ℕ) → ℕ → Type 0
Fate G far level D front E next x = (distance_of E far x ≡ distance_of D far x)
    ⊎ ((distance_of D far x ≡ far) × (distance_of E far x ≡ level + 1) × (has next x ≡ true) × ReadsFront G front x)

pub level_next : (G : ℕ → ℕ → Type 0) (target far level : ℕ) (D front E next : List ℕ) → Level G target far level D front → 1 ≤ length front
    → Spread (ReadsFront G front) far (level + 1) D [] E next → Level G target far (level + 1) E next
level_next G target far level D front E next l some s = record {
  start = start_at (s.each target);
  only = λ x e. only_at x (s.each x) e;
  bounded = s.bounded;
  reached = λ x b. reached_at x (s.each x) b;
  of_front = λ x h. ⊎_elim (λ a. absurd (in_none x a)) (λ e. e) (s.of_next x h);
  in_front = λ x e b. in_front_at x (s.each x) e b;
  near = λ x z r a b. near_at x z r a b (s.each z);
  next = λ x p b. next_at x p b (s.each x);
  places = s.places ∙ l.places;
  room = let a : unreached far E + length next ≡ unreached far D + 0 = s.count in let b : level + unreached far D + length front ≤ far = l.room in omega (arith, a, b, some);
}
  where
    some_far : 0 < far
    some_far = let b : level + unreached far D + length front ≤ far = l.room in omega (arith, b, some)

    start_at : Fate G far level D front E next target → distance_of E far target ≡ 0
    start_at (inl e) = e ∙ l.start
    start_at (inr e) = absurd (let a : distance_of D far target ≡ far = e.0 in let b : distance_of D far target ≡ 0 = l.start in let c : 0 < far = some_far in omega (arith, a, b, c))

    only_at : (x : ℕ) → Fate G far level D front E next x → distance_of E far x ≡ 0 → x ≡ target
    only_at x (inl e) h = l.only x (sym e ∙ h)
    only_at x (inr e) h = absurd (let a : distance_of E far x ≡ level + 1 = e.1 in omega (arith, a, h))

    reached_at : (x : ℕ) → Fate G far level D front E next x → distance_of E far x < far → distance_of E far x ≤ level + 1
    reached_at x (inl e) h = let a : distance_of D far x ≤ level = l.reached x (subst (λ q. q < far) e h) in let b : distance_of E far x ≡ distance_of D far x = e in omega (arith, a, b)
    reached_at x (inr e) h = let a : distance_of E far x ≡ level + 1 = e.1 in omega (arith, a)

    in_front_at : (x : ℕ) → Fate G far level D front E next x → distance_of E far x ≡ level + 1 → level + 1 < far → has next x ≡ true
    in_front_at x (inl e) h b = absurd (
        let f : distance_of E far x < far = omega (arith, h, b) in
        let a : distance_of D far x ≤ level = l.reached x (subst (λ q. q < far) e f) in
        let c : distance_of E far x ≡ distance_of D far x = e in
        omega (arith, a, c, h))
    in_front_at x (inr e) h b = e.2

    kept : (x : ℕ) → distance_of D far x < far → Fate G far level D front E next x → distance_of E far x ≡ distance_of D far x
    kept x b (inl e) = e
    kept x b (inr e) = absurd (let a : distance_of D far x ≡ far = e.0 in omega (arith, a, b))

    near_lower : (x z : ℕ) → G x z → distance_of E far z ≡ distance_of D far z → distance_of D far z < level → distance_of D far z < far
        → (distance_of E far x < far) × (distance_of E far x ≤ distance_of E far z + 1)
    near_lower x z r e a b =
        let n = l.near x z r a b in
        let k : distance_of E far x ≡ distance_of D far x = kept x n.0 (s.each x) in
        let c : distance_of D far x < far = n.0 in
        let d : distance_of D far x ≤ distance_of D far z + 1 = n.1 in
        (omega (arith, k, c), omega (arith, k, d, e))

    near_at_front : (x z : ℕ) → G x z → distance_of E far z ≡ level → distance_of D far z ≡ level → level < far
        → (distance_of E far x < far) × (distance_of E far x ≤ distance_of E far z + 1)
    near_at_front x z r e d b =
        let f : distance_of E far x < far = s.all x (z, l.in_front z d b, r) in
        let g : distance_of E far x ≤ level + 1 = reached_at x (s.each x) f in
        (f, omega (arith, g, e))

    near_at : (x z : ℕ) → G x z → distance_of E far z < level + 1 → distance_of E far z < far → Fate G far level D front E next z
        → (distance_of E far x < far) × (distance_of E far x ≤ distance_of E far z + 1)
    near_at x z r a b (inr e) = absurd (let c : distance_of E far z ≡ level + 1 = e.1 in omega (arith, a, c))
    near_at x z r a b (inl e) = ⊎_elim
        (λ q. near_at_front x z r (e ∙ q) q (let i : distance_of E far z ≡ distance_of D far z = e in omega (arith, b, i, q)))
        (λ q. near_lower x z r e (let i : distance_of E far z ≡ distance_of D far z = e in omega (arith, a, i, q)) (let i : distance_of E far z ≡ distance_of D far z = e in omega (arith, b, i)))
        (cases_eq (distance_of D far z) level)

    next_at : (x : ℕ) → 0 < distance_of E far x → distance_of E far x < far → Fate G far level D front E next x → (z : ℕ) × (G x z) × (distance_of E far x ≡ distance_of E far z + 1)
    next_at x p b (inl e) =
        let n = l.next x (subst (λ q. 0 < q) e p) (subst (λ q. q < far) e b) in
        let i : distance_of E far x ≡ distance_of D far x = e in
        let j : distance_of D far x ≡ distance_of D far n.0 + 1 = n.2 in
        let k : distance_of E far n.0 ≡ distance_of D far n.0 = kept n.0 (omega (arith, b, i, j)) (s.each n.0) in
        (n.0, n.1, omega (arith, i, j, k))
    next_at x p b (inr e) =
        let d : distance_of D far e.3.0 ≡ level = l.of_front e.3.0 e.3.1 in
        let i : distance_of E far x ≡ level + 1 = e.1 in
        let k : distance_of E far e.3.0 ≡ distance_of D far e.3.0 = kept e.3.0 (omega (arith, b, i, d)) (s.each e.3.0) in
        (e.3.0, e.3.2, omega (arith, i, d, k))

-- where the front is empty, all is measured
pub all_measured : (G : ℕ → ℕ → Type 0) (target far level : ℕ) (D front : List ℕ) → Level G target far level D front → front ≡ [] → Measures G target far (λ x. distance_of D far x)
all_measured G target far level D front l none = record {
  start = l.start;
  only = l.only;
  near = λ x z r b. l.near x z r (lower z b (cases_eq (distance_of D far z) level)) b;
  next = l.next;
}
  where
    lower : (z : ℕ) → distance_of D far z < far → (distance_of D far z ≡ level) ⊎ (distance_of D far z ≡ level → ⊥) → distance_of D far z < level
    lower z b (inl e) = absurd (no_front z (l.in_front z e (subst (λ q. q < far) e b)))
      where
        no_front : (z : ℕ) → has front z ≡ true → ⊥
        no_front z h = in_none z (subst (λ (o : List ℕ). has o z ≡ true) none h)
    lower z b (inr n) = let a : distance_of D far z ≤ level = l.reached z b in omega (arith, a, n)

-- the first level is the target alone
all_far : (n far x : ℕ) → distance_of (replicate n far) far x ≡ far
all_far zero far x = refl
all_far (suc n) far zero = refl
all_far (suc n) far (suc x) = all_far n far x

length_far : (n far : ℕ) → length (replicate n far) ≡ n
length_far zero far = refl
length_far (suc n) far = ap suc (length_far n far)

unreached_far : (n far : ℕ) → unreached far (replicate n far) ≡ n
unreached_far zero far = refl
unreached_far (suc n) far =
    let a : one_if (nat_eq far far) ≡ 1 = ap one_if (eq-eqb far far refl) in
    let r : unreached far (replicate n far) ≡ n = unreached_far n far in
    omega (arith, a, r)

pub first_level : (G : ℕ → ℕ → Type 0) (target far : ℕ) → target < far → Level G target far 0 (set (replicate far far) target 0) (target ∷ [])
first_level G target far h = record {
  start = zero_there;
  only = λ x e. only_at x (cases_eq x target) e;
  bounded = λ x. bounded_at x (cases_eq x target);
  reached = λ x b. reached_at x (cases_eq x target) b;
  of_front = λ x m. front_at x (or_cases (nat_eq x target) false m);
  in_front = λ x e b. subst (λ q. has (target ∷ []) q ≡ true) (sym (only_at x (cases_eq x target) e)) (has_head target []);
  near = λ x z r a b. absurd (let q : distance_of (set (replicate far far) target 0) far z < 0 = a in omega (arith, q));
  next = λ x p b. absurd (no_next x p b (cases_eq x target));
  places = length-set (replicate far far) target 0 ∙ length_far far far;
  room =
      let a : suc (unreached far (set (replicate far far) target 0)) ≡ unreached far (replicate far far) = unreached_set (replicate far far) far target 0 inside (all_far far far target) (λ e. absurd (omega (arith, h, e))) in
      let b : unreached far (replicate far far) ≡ far = unreached_far far far in
      omega (arith, a, b);
}
  where
    inside : target < length (replicate far far)
    inside = subst (λ n. target < n) (sym (length_far far far)) h

    zero_there : distance_of (set (replicate far far) target 0) far target ≡ 0
    zero_there = dist_same (replicate far far) far target 0 inside

    far_else : (x : ℕ) → (x ≡ target → ⊥) → distance_of (set (replicate far far) target 0) far x ≡ far
    far_else x n = dist_other (replicate far far) far target x 0 n ∙ all_far far far x

    only_at : (x : ℕ) → (x ≡ target) ⊎ (x ≡ target → ⊥) → distance_of (set (replicate far far) target 0) far x ≡ 0 → x ≡ target
    only_at x (inl e) z = e
    only_at x (inr n) z = absurd (let a : distance_of (set (replicate far far) target 0) far x ≡ far = far_else x n in omega (arith, a, z, h))

    bounded_at : (x : ℕ) → (x ≡ target) ⊎ (x ≡ target → ⊥) → distance_of (set (replicate far far) target 0) far x ≤ far
    bounded_at x (inl e) = let a : distance_of (set (replicate far far) target 0) far x ≡ 0 = subst (λ q. distance_of (set (replicate far far) target 0) far q ≡ 0) (sym e) zero_there in omega (arith, a)
    bounded_at x (inr n) = let a : distance_of (set (replicate far far) target 0) far x ≡ far = far_else x n in omega (arith, a)

    reached_at : (x : ℕ) → (x ≡ target) ⊎ (x ≡ target → ⊥) → distance_of (set (replicate far far) target 0) far x < far → distance_of (set (replicate far far) target 0) far x ≤ 0
    reached_at x (inl e) b = let a : distance_of (set (replicate far far) target 0) far x ≡ 0 = subst (λ q. distance_of (set (replicate far far) target 0) far q ≡ 0) (sym e) zero_there in omega (arith, a)
    reached_at x (inr n) b = absurd (let a : distance_of (set (replicate far far) target 0) far x ≡ far = far_else x n in omega (arith, a, b))

    front_at : (x : ℕ) → (nat_eq x target ≡ true) ⊎ (false ≡ true) → distance_of (set (replicate far far) target 0) far x ≡ 0
    front_at x (inl e) = subst (λ q. distance_of (set (replicate far far) target 0) far q ≡ 0) (sym (eqb-true x target e)) zero_there
    front_at x (inr e) = absurd cc

    no_next : (x : ℕ) → 0 < distance_of (set (replicate far far) target 0) far x → distance_of (set (replicate far far) target 0) far x < far → (x ≡ target) ⊎ (x ≡ target → ⊥) → ⊥
    no_next x p b (inl e) = let a : distance_of (set (replicate far far) target 0) far x ≡ 0 = subst (λ q. distance_of (set (replicate far far) target 0) far q ≡ 0) (sym e) zero_there in absurd (omega (arith, a, p))
    no_next x p b (inr n) = let a : distance_of (set (replicate far far) target 0) far x ≡ far = far_else x n in absurd (omega (arith, a, b))
