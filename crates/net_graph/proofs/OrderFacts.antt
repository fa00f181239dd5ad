-- Orders grow at their end.
use Rattle.std.proofs.Common.{◌≡◌, ◌∙◌, sym, ap, subst, ℕ, zero, suc, ◌+◌, ◌<◌, Bool, true, false, List, [], ◌∷◌, ◌++◌, ◌||◌, nat_eq, ◌⊎◌, inl, inr, refl, arith, length, set, replicate}
use Rattle.std.proofs.lemmas.Bool.{or_left, or_right, eq-eqb, ne_eqb, cases_eq}
use Rattle.std.proofs.lemmas.List.{length-set}
use Rattle.net_core.specs.Rules.{has}
use Rattle.net_graph.specs.Graphs.{reads_in, Follows}
use Rattle.net_graph.specs.Taking.{left, is_taken, Taken, StuckBelow, Furthest}
use Rattle.net_graph.proofs.HasFacts.{has_append}

follows_more : (reads : ℕ → ℕ → Bool) (seen xs : List ℕ) (x : ℕ) → Follows reads seen xs → (has xs x || has seen x) ≡ false
    → ((y : ℕ) → reads x y ≡ true → (has xs y || has seen y) ≡ true) → Follows reads seen (xs ++ x ∷ [])
follows_more reads seen [] x f fresh below = (fresh, (λ y r. below y r), tt)
follows_more reads seen (a ∷ rest) x f fresh below =
    (f.0, f.1, follows_more reads (a ∷ seen) rest x f.2 (turned (nat_eq x a) (has rest x) (has seen x) ∙ fresh) (λ y r. turned (nat_eq y a) (has rest y) (has seen y) ∙ below y r))
  where
    turned : (p q r : Bool) → (q || (p || r)) ≡ ((p || q) || r)
    turned true true r = refl
    turned true false r = refl
    turned false q r = refl

-- one mark is set
pub taken_same : (taken : List Bool) (x : ℕ) → x < length taken → is_taken (set taken x true) x ≡ true
taken_same [] x h = absurd (omega arith)
taken_same (b ∷ bs) zero h = refl
taken_same (b ∷ bs) (suc x) h = taken_same bs x (omega arith)

pub taken_other : (taken : List Bool) (x y : ℕ) → (y ≡ x → ⊥) → is_taken (set taken x true) y ≡ is_taken taken y
taken_other [] x y h = refl
taken_other (b ∷ bs) zero zero h = absurd (h refl)
taken_other (b ∷ bs) zero (suc y) h = refl
taken_other (b ∷ bs) (suc x) zero h = refl
taken_other (b ∷ bs) (suc x) (suc y) h = taken_other bs x y (λ e. h (ap suc e))

pub left_set : (taken : List Bool) (x : ℕ) → x < length taken → is_taken taken x ≡ false → suc (left (set taken x true)) ≡ left taken
left_set [] x h f = absurd (omega arith)
left_set (true ∷ bs) zero h f = absurd cc
left_set (false ∷ bs) zero h f = omega arith
left_set (true ∷ bs) (suc x) h f = left_set bs x (omega arith) f
left_set (false ∷ bs) (suc x) h f = let e : suc (left (set bs x true)) ≡ left bs = left_set bs x (omega arith) f in omega (arith, e)

pub length_more : (xs : List ℕ) (x : ℕ) → length (xs ++ x ∷ []) ≡ suc (length xs)
length_more [] x = refl
length_more (a ∷ rest) x = ap suc (length_more rest x)

right_false : (a b : Bool) → b ≡ false → (a || b) ≡ a
right_false true b h = refl
right_false false b h = h

pub taken_one : (lists : List (List ℕ)) (order : List ℕ) (taken : List Bool) (x : ℕ) → x < length lists → Taken lists order taken
    → is_taken taken x ≡ false → ((y : ℕ) → reads_in lists x y ≡ true → is_taken taken y ≡ true) → Taken lists (order ++ x ∷ []) (set taken x true)
taken_one lists order taken x h t fresh below = record {
  follows = follows_more (reads_in lists) [] order x t.follows (right_false (has order x) false refl ∙ sym (t.marks x) ∙ fresh)
      (λ y r. right_false (has order y) false refl ∙ sym (t.marks y) ∙ below y r);
  marks = λ y. marked y (cases_eq y x);
  places = length-set taken x true ∙ t.places;
  count = counted;
}
  where
    inside : x < length taken
    inside = subst (λ n. x < n) (sym t.places) h

    counted : left (set taken x true) + length (order ++ x ∷ []) ≡ length lists
    counted =
        let e : suc (left (set taken x true)) ≡ left taken = left_set taken x inside fresh in
        let l : length (order ++ x ∷ []) ≡ suc (length order) = length_more order x in
        let c : left taken + length order ≡ length lists = t.count in
        omega (arith, e, l, c)

    marked : (y : ℕ) → (y ≡ x) ⊎ (y ≡ x → ⊥) → is_taken (set taken x true) y ≡ has (order ++ x ∷ []) y
    marked y (inl e) = subst (λ z. is_taken (set taken x true) z ≡ has (order ++ x ∷ []) z) (sym e)
        (taken_same taken x inside ∙ sym (has_append order (x ∷ []) x ∙ or_right (has order x) (nat_eq x x || false) (or_left (nat_eq x x) false (eq-eqb x x refl))))
    marked y (inr n) =
        let q : nat_eq y x ≡ false = ne_eqb y x n in
        taken_other taken x y n ∙ t.marks y ∙ sym (has_append order (x ∷ []) y ∙ right_false (has order y) (nat_eq y x || false) (right_false (nat_eq y x) false refl ∙ q))

-- no mark is set at first
left_none : (n : ℕ) → left (replicate n false) ≡ n
left_none zero = refl
left_none (suc n) = let e : left (replicate n false) ≡ n = left_none n in omega (arith, e)

taken_none : (n x : ℕ) → is_taken (replicate n false) x ≡ false
taken_none zero x = refl
taken_none (suc n) zero = refl
taken_none (suc n) (suc x) = taken_none n x

length_none : (n : ℕ) → length (replicate n false) ≡ n
length_none zero = refl
length_none (suc n) = ap suc (length_none n)

pub nothing_taken : (lists : List (List ℕ)) → Taken lists [] (replicate (length lists) false)
nothing_taken lists = record {
  follows = tt;
  marks = λ x. taken_none (length lists) x;
  places = length_none (length lists);
  count = let e : left (replicate (length lists) false) ≡ length lists = left_none (length lists) in omega (arith, e);
}

-- a set mark is one of the marks
pub taken_below : (taken : List Bool) (x : ℕ) → is_taken taken x ≡ true → x < length taken
taken_below [] x h = absurd cc
taken_below (b ∷ bs) zero h = omega arith
taken_below (b ∷ bs) (suc x) h = let e : x < length bs = taken_below bs x h in omega (arith, e)

all_if_none_left : (taken : List Bool) (x : ℕ) → left taken ≡ 0 → x < length taken → is_taken taken x ≡ true
all_if_none_left [] x e h = absurd (omega arith)
all_if_none_left (true ∷ bs) zero e h = refl
all_if_none_left (true ∷ bs) (suc x) e h = all_if_none_left bs x e (omega arith)
all_if_none_left (false ∷ bs) x e h = absurd (omega (arith, e))

one_if_left : (taken : List Bool) → (left taken ≡ 0 → ⊥) → (x : ℕ) × (x < length taken) × (is_taken taken x ≡ false)
one_if_left [] n = absurd (n refl)
one_if_left (true ∷ bs) n = let o = one_if_left bs n in let h : o.0 < length bs = o.1 in (suc o.0, omega (arith, h), o.2)
one_if_left (false ∷ bs) n = (0, omega arith, refl)

pub furthest : (lists : List (List ℕ)) (order : List ℕ) (taken : List Bool) → Taken lists order taken → StuckBelow lists taken (length lists) → Furthest lists order
furthest lists order taken t s = record {
  follows = t.follows;
  own = λ x h. subst (λ n. x < n) t.places (taken_below taken x (t.marks x ∙ h));
  stuck = λ x h f. let w = s x h (t.marks x ∙ f) in (w.0, w.1, sym (t.marks w.0) ∙ w.2);
  full = λ e x h. sym (t.marks x) ∙ all_if_none_left taken x (let c : left taken + length order ≡ length lists = t.count in omega (arith, c, e)) (subst (λ n. x < n) (sym t.places) h);
  short = λ n. let o = one_if_left taken (λ z. let c : left taken + length order ≡ length lists = t.count in absurd (omega (arith, c, z, n))) in
      (o.0, subst (λ k. o.0 < k) t.places o.1, sym (t.marks o.0) ∙ o.2);
}
