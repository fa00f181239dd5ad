-- Rows of readers.
use Rattle.std.proofs.Common.{◌≡◌, ◌∙◌, sym, ap, subst, ℕ, zero, suc, ◌+◌, ◌<◌, ◌≤◌, true, false, List, [], ◌∷◌, ◌++◌, nat_eq, ◌⊎◌, inl, inr, refl, arith, ⊎_elim, length, take, get_or, set}
use Rattle.std.proofs.lemmas.Bool.{or_cases, or_left, or_right, eqb-true, cases_eq, both_ways}
use Rattle.std.specs.declared.vec.Vec.{Vec}
use Rattle.std.specs.declared.alloc.Global.{Global}
use Rattle.net_core.specs.Rules.{has}
use Rattle.net_graph.specs.Graphs.{reads_in}
use Rattle.net_graph.specs.Readers.{in_row, PutIn, Noted, TurnedBelow}
use Rattle.net_graph.proofs.HasFacts.{has_append, has_take, has_head, has_wider, has_newest}

abbrev Row : Type 0
Row = Vec ℕ Global

pub row_same : (rows : List Row) (z k : ℕ) (v : Row) → z < length rows → in_row (set rows z v) z k ≡ has v.items k
row_same [] z k v h = absurd (omega arith)
row_same (r ∷ rs) zero k v h = refl
row_same (r ∷ rs) (suc z) k v h = row_same rs z k v (omega arith)

pub row_other : (rows : List Row) (y z k : ℕ) (v : Row) → (z ≡ y → ⊥) → in_row (set rows y v) z k ≡ in_row rows z k
row_other [] y z k v h = refl
row_other (r ∷ rs) zero zero k v h = absurd (h refl)
row_other (r ∷ rs) zero (suc z) k v h = refl
row_other (r ∷ rs) (suc y) zero k v h = refl
row_other (r ∷ rs) (suc y) (suc z) k v h = row_other rs y z k v (λ e. h (ap suc e))

pub row_at : (rows : List Row) (z k : ℕ) (d : Row) → z < length rows → in_row rows z k ≡ has (get_or rows z d).items k
row_at [] z k d h = absurd (omega arith)
row_at (r ∷ rs) zero k d h = refl
row_at (r ∷ rs) (suc z) k d h = row_at rs z k d (omega arith)

pub row_below : (rows : List Row) (z k : ℕ) → in_row rows z k ≡ true → z < length rows
row_below [] z k h = absurd cc
row_below (r ∷ rs) zero k h = omega arith
row_below (r ∷ rs) (suc z) k h = let e : z < length rs = row_below rs z k h in omega (arith, e)

last_has : (xs : List ℕ) (x : ℕ) → has (xs ++ x ∷ []) x ≡ true
last_has xs x = has_append xs (x ∷ []) x ∙ or_right (has xs x) (has (x ∷ []) x) (has_head x [])

kept_has : (xs : List ℕ) (x k : ℕ) → has xs k ≡ true → has (xs ++ x ∷ []) k ≡ true
kept_has xs x k h = has_append xs (x ∷ []) k ∙ or_left (has xs k) (has (x ∷ []) k) h

new_has : (xs : List ℕ) (x k : ℕ) → has (xs ++ x ∷ []) k ≡ true → (has xs k ≡ true) ⊎ (k ≡ x)
new_has xs x k h = ⊎_elim (λ a. inl a) (λ b. ⊎_elim (λ e. inr (eqb-true k x e)) (λ n. absurd cc) (or_cases (nat_eq k x) false b))
    (or_cases (has xs k) (has (x ∷ []) k) (sym (has_append xs (x ∷ []) k) ∙ h))

pub put_at : (x y : ℕ) (now : List Row) (v d : Row) → y < length now → v.items ≡ (get_or now y d).items ++ x ∷ [] → PutIn x y now (set now y v)
put_at x y now v d b e = record {
  kept = λ z k m. after_kept z k (cases_eq z y) m;
  new = λ z k m. after_new z k (cases_eq z y) m;
  put = λ h. at_y x ∙ last_has (get_or now y d).items x;
}
  where
    at_y : (k : ℕ) → in_row (set now y v) y k ≡ has ((get_or now y d).items ++ x ∷ []) k
    at_y k = row_same now y k v b ∙ ap (λ (o : List ℕ). has o k) e

    after_kept : (z k : ℕ) → (z ≡ y) ⊎ (z ≡ y → ⊥) → in_row now z k ≡ true → in_row (set now y v) z k ≡ true
    after_kept z k (inl q) m = subst (λ t. in_row (set now y v) t k ≡ true) (sym q)
        (at_y k ∙ kept_has (get_or now y d).items x k (sym (row_at now y k d b) ∙ subst (λ t. in_row now t k ≡ true) q m))
    after_kept z k (inr q) m = row_other now y z k v q ∙ m

    after_new : (z k : ℕ) → (z ≡ y) ⊎ (z ≡ y → ⊥) → in_row (set now y v) z k ≡ true → (in_row now z k ≡ true) ⊎ ((k ≡ x) × (z ≡ y))
    after_new z k (inl q) m = ⊎_elim
        (λ a. inl (subst (λ t. in_row now t k ≡ true) (sym q) (row_at now y k d b ∙ a)))
        (λ a. inr (a, q))
        (new_has (get_or now y d).items x k (sym (at_y k) ∙ subst (λ t. in_row (set now y v) t k ≡ true) q m))
    after_new z k (inr q) m = inl (sym (row_other now y z k v q) ∙ m)

pub put_past : (x y : ℕ) (now : List Row) → length now ≤ y → PutIn x y now now
put_past x y now h = record { kept = λ z k m. m; new = λ z k m. inl m; put = λ l. absurd (omega (arith, h, l)) }

pub nothing_noted : (x : ℕ) (list : List ℕ) (rows : List Row) → Noted x (take 0 list) rows rows
nothing_noted x list rows = record { kept = λ z k m. m; new = λ z k m. inl m; noted = λ z l m. absurd (none list z m) }
  where
    none : (xs : List ℕ) (z : ℕ) → has (take 0 xs) z ≡ true → ⊥
    none [] z m = cc
    none (a ∷ rest) z m = cc

-- one more of the list is noted
pub noted_more : (x : ℕ) (list : List ℕ) (i : ℕ) (before now after : List Row) → i < length list → length now ≡ length before
    → Noted x (take i list) before now → PutIn x (get_or list i 0) now after → Noted x (take (i + 1) list) before after
noted_more x list i before now after h l n p = record {
  kept = λ z k m. p.kept z k (n.kept z k m);
  new = λ z k m. ⊎_elim (λ a. older z k a) (λ e. inr (e.0, subst (λ t. has (take (i + 1) list) t ≡ true) (sym e.1) (has_newest list i 0 h))) (p.new z k m);
  noted = λ z s m. ⊎_elim (λ a. p.kept z x (n.noted z s a))
      (λ e. subst (λ t. in_row after t x ≡ true) (sym e) (p.put (subst (λ t. t < length now) e (subst (λ t. z < t) (sym l) s))))
      (has_take list i 0 z h m);
}
  where
    older : (z k : ℕ) → in_row now z k ≡ true → (in_row before z k ≡ true) ⊎ ((k ≡ x) × (has (take (i + 1) list) z ≡ true))
    older z k m = ⊎_elim (λ a. inl a) (λ e. inr (e.0, has_wider list i z e.1)) (n.new z k m)

pub nothing_turned : (lists : List (List ℕ)) (rows : List Row) → length rows ≡ length lists → ((z k : ℕ) → in_row rows z k ≡ false) → TurnedBelow lists rows 0
nothing_turned lists rows l e = record { rows = l; right = λ z k m. absurd (no z k m); all = λ z k h s m. absurd (none k h) }
  where
    no : (z k : ℕ) → in_row rows z k ≡ true → ⊥
    no z k m = both_ways (in_row rows z k) (e z k) m

    none : (k : ℕ) → k < 0 → ⊥
    none k h = absurd (omega arith)

-- one more of the numbers is turned round
pub turned_more : (lists : List (List ℕ)) (x : ℕ) (before after : List Row) → x < length lists → length after ≡ length before
    → TurnedBelow lists before x → Noted x (get_or lists x []) before after → TurnedBelow lists after (x + 1)
turned_more lists x before after h l t n = record {
  rows = l ∙ t.rows;
  right = λ z k m. ⊎_elim (λ a. t.right z k a)
      (λ e. (subst (λ q. q < length lists) (sym e.0) h, subst (λ q. reads_in lists q z ≡ true) (sym e.0) e.1)) (n.new z k m);
  all = λ z k s b m. ⊎_elim
      (λ e. subst (λ q. in_row after z q ≡ true) (sym e) (n.noted z (subst (λ q. z < q) (sym t.rows) b) (subst (λ q. reads_in lists q z ≡ true) e m)))
      (λ o. n.kept z k (t.all z k (less k s o) b m))
      (cases_eq k x);
}
  where
    less : (k : ℕ) → k < x + 1 → (k ≡ x → ⊥) → k < x
    less k s o = omega (arith, s, o)

pub one_more_empty : (rows : List Row) (v : Row) → v.items ≡ [] → ((z k : ℕ) → in_row rows z k ≡ false) → (z k : ℕ) → in_row (rows ++ v ∷ []) z k ≡ false
one_more_empty [] v e h zero k = ap (λ (o : List ℕ). has o k) e
one_more_empty [] v e h (suc z) k = refl
one_more_empty (r ∷ rs) v e h zero k = h 0 k
one_more_empty (r ∷ rs) v e h (suc z) k = one_more_empty rs v e (λ y i. h (suc y) i) z k

pub row_past : (rows : List Row) (z k : ℕ) → length rows ≤ z → in_row rows z k ≡ false
row_past [] z k h = refl
row_past (r ∷ rs) zero k h = absurd (omega arith)
row_past (r ∷ rs) (suc z) k h = row_past rs z k (omega arith)
