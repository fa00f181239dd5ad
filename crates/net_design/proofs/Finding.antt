-- The loop that is found by going over all lists is the loop that is named.
use Rattle.std.proofs.Common.{◌≡◌, ◌∙◌, sym, ap, subst, ℕ, zero, suc, ◌+◌, ◌<◌, ◌≤◌, Bool, true, false, Option, None, Some, List, [], ◌∷◌, ◌++◌, ◌||◌, ◌&&◌, nat_eq, ◌⊎◌, inl, inr, ⊎_elim, refl, arith, length, map, cond}
use Rattle.std.specs.List.{range_with_len, IsDistinct, list_any, flat_map, find}
use Rattle.std.specs.Prelude.{option_map}
use Rattle.std.specs.Option.{option_or}
use Rattle.std.proofs.lemmas.Bool.{or_cases, and_parts, cases_Bool, cases_eq, eqb-true}
use Rattle.std.proofs.lemmas.Grind.{common_steps}
use Rattle.std.proofs.lemmas.List.Concat.{flat_map-cons}
use Rattle.std.proofs.lemmas.List.Folds.{find-append}
use Rattle.std.proofs.lemmas.Map.Steps.{length-le_from_distinct_below}
use Rattle.net_core.specs.declared.tree.Elab.{Elab}
use Rattle.net_core.specs.Rules.{has}
use Rattle.net_core.specs.Formed.{Formed}
use Rattle.net_core.specs.Depends.{reads_of, NotAfter, Leads, IsLoopFrom, IsNamedLoop, NoLoop, Loops, ends, goes}
use Rattle.net_core.proofs.FormedFacts.{within}
use Rattle.net_core.proofs.Decided.{reader_below}
use Rattle.net_core.proofs.Acyclic.{has_any, all_apart}
use Rattle.net_design.specs.Naming.{lists_of, returns, is_loop, ways_from, loop_of}

-- ---- finding in lists of lists
pub find_range : {A : Type 0} (p : A → Bool) (f : ℕ → List A) (a n k : ℕ) (v : A) → k < n
    → ((j : ℕ) → j < k → find p (f (a + j)) ≡ None) → find p (f (a + k)) ≡ Some v → find p (flat_map f (range_with_len a n)) ≡ Some v
find_range p f a zero k v h none there = absurd (omega (arith, h))
find_range p f a (suc n) zero v h none there =
    let d : find p (f a) ≡ Some v = subst (λ q. find p (f q) ≡ Some v) (plus_none a) there in
    ap (λ xs. find p xs) (flat_map-cons f a (range_with_len (a + 1) n))
    ∙ find-append p (f a) (flat_map f (range_with_len (a + 1) n))
    ∙ ap (λ o. option_or o (find p (flat_map f (range_with_len (a + 1) n)))) d
  where
    plus_none : (q : ℕ) → q + 0 ≡ q
    plus_none q = omega arith
find_range p f a (suc n) (suc k) v h none there =
    let d : find p (f a) ≡ None = subst (λ q. find p (f q) ≡ None) (plus_none a) (none 0 (omega arith)) in
    ap (λ xs. find p xs) (flat_map-cons f a (range_with_len (a + 1) n))
    ∙ find-append p (f a) (flat_map f (range_with_len (a + 1) n))
    ∙ ap (λ o. option_or o (find p (flat_map f (range_with_len (a + 1) n)))) d
    ∙ find_range p f (a + 1) n k v (omega (arith, h))
    (λ j b. subst (λ q. find p (f q) ≡ None) (one_more a j) (none (suc j) (omega (arith, b))))
    (subst (λ q. find p (f q) ≡ Some v) (one_more a k) there)
  where
    plus_none : (q : ℕ) → q + 0 ≡ q
    plus_none q = omega arith

    one_more : (q j : ℕ) → q + suc j ≡ (q + 1) + j
    one_more q j = omega arith

pub none_range : {A : Type 0} (p : A → Bool) (f : ℕ → List A) (a n : ℕ)
    → ((j : ℕ) → j < n → find p (f (a + j)) ≡ None) → find p (flat_map f (range_with_len a n)) ≡ None
none_range p f a zero none = refl
none_range p f a (suc n) none =
    let d : find p (f a) ≡ None = subst (λ q. find p (f q) ≡ None) (plus_none a) (none 0 (omega arith)) in
    ap (λ xs. find p xs) (flat_map-cons f a (range_with_len (a + 1) n))
    ∙ find-append p (f a) (flat_map f (range_with_len (a + 1) n))
    ∙ ap (λ o. option_or o (find p (flat_map f (range_with_len (a + 1) n)))) d
    ∙ none_range p f (a + 1) n (λ j b. subst (λ q. find p (f q) ≡ None) (one_more a j) (none (suc j) (omega (arith, b))))
  where
    plus_none : (q : ℕ) → q + 0 ≡ q
    plus_none q = omega arith

    one_more : (q j : ℕ) → q + suc j ≡ (q + 1) + j
    one_more q j = omega arith

zero_first : (q : ℕ) → q ≡ 0 + q
zero_first q = omega arith

pub find_at : {A : Type 0} (p : A → Bool) (f : ℕ → List A) (n k : ℕ) (v : A) → k < n
    → ((j : ℕ) → j < k → find p (f j) ≡ None) → find p (f k) ≡ Some v → find p (flat_map f (range_with_len 0 n)) ≡ Some v
find_at p f n k v h none there =
    find_range p f 0 n k v h (λ j b. subst (λ q. find p (f q) ≡ None) (zero_first j) (none j b)) (subst (λ q. find p (f q) ≡ Some v) (zero_first k) there)

pub none_at : {A : Type 0} (p : A → Bool) (f : ℕ → List A) (n : ℕ) → ((j : ℕ) → j < n → find p (f j) ≡ None) → find p (flat_map f (range_with_len 0 n)) ≡ None
none_at p f n none = none_range p f 0 n (λ j b. subst (λ q. find p (f q) ≡ None) (zero_first j) (none j b))

pub find_map : {A B : Type 0} (p : B → Bool) (g : A → B) (xs : List A) → find p (map g xs) ≡ option_map g (find (λ x. p (g x)) xs)
find_map p g [] = refl
find_map p g (x ∷ xs) = step (p (g x)) (find_map p g xs)
  where
    step : (b : Bool) → find p (map g xs) ≡ option_map g (find (λ y. p (g y)) xs)
        → cond b (Some (g x)) (find p (map g xs)) ≡ option_map g (cond b (Some x) (find (λ y. p (g y)) xs))
    step true h = refl
    step false h = h

-- ---- all lists of so many numbers
abbrev pub AllBelow : ℕ → List ℕ → Type 0
AllBelow n [] = Unit {0}
AllBelow n (x ∷ xs) = (x < n) × AllBelow n xs

pub none_of : (q : List ℕ → Bool) (n k : ℕ) → ((m : List ℕ) → length m ≡ k → q m ≡ false) → find q (lists_of n k) ≡ None
none_of q n zero never = rw (never [] refl) refl
none_of q n (suc k) never =
    none_at q (λ x. map (λ xs. x ∷ xs) (lists_of n k)) n
    (λ j h. find_map q (λ (xs : List ℕ). j ∷ xs) (lists_of n k)
    ∙ ap (λ o. option_map (λ (xs : List ℕ). j ∷ xs) o) (none_of (λ m. q (j ∷ m)) n k (λ m e. never (j ∷ m) (ap suc e))))

-- order of lists
later_first : (x y : ℕ) (xs ys : List ℕ) → y < x → NotAfter (x ∷ xs) (y ∷ ys) → ⊥
later_first x y xs ys h a = a (grind (arith, common_steps))

behind_first : (x : ℕ) (xs ys : List ℕ) → NotAfter (x ∷ xs) (x ∷ ys) → NotAfter xs ys
behind_first x xs ys h = grind (arith, common_steps)

shut : (b : Bool) → (b ≡ true → ⊥) → b ≡ false
shut true h = absurd (h refl)
shut false h = refl

suc_same : (a b : ℕ) → suc a ≡ suc b → a ≡ b
suc_same a b e = omega (arith, e)

-- the least list that passes is the one that is found
pub least_found : (q : List ℕ → Bool) (n : ℕ) (l : List ℕ) → AllBelow n l → q l ≡ true
    → ((m : List ℕ) → length m ≡ length l → q m ≡ true → NotAfter l m) → find q (lists_of n (length l)) ≡ Some l
least_found q n [] b t least = rw t refl
least_found q n (x ∷ xs) b t least =
    find_at q (λ y. map (λ ys. y ∷ ys) (lists_of n (length xs))) n x (x ∷ xs) b.0
    (λ j h. find_map q (λ (ys : List ℕ). j ∷ ys) (lists_of n (length xs))
    ∙ ap (λ o. option_map (λ (ys : List ℕ). j ∷ ys) o) (none_of (λ m. q (j ∷ m)) n (length xs)
    (λ m e. shut (q (j ∷ m)) (λ w. later_first x j xs m (omega (arith, h)) (least (j ∷ m) (ap suc e) w)))))
    (find_map q (λ (ys : List ℕ). x ∷ ys) (lists_of n (length xs))
    ∙ ap (λ o. option_map (λ (ys : List ℕ). x ∷ ys) o)
    (least_found (λ m. q (x ∷ m)) n xs b.1 t (λ m e w. behind_first x xs m (least (x ∷ m) (ap suc e) w))))

-- ---- lists that lead back
and_true : (x y : Bool) → x ≡ true → y ≡ true → (x && y) ≡ true
and_true x y h k = rw h (rw k refl)

pub returns_to : (e : Elab) (home x : ℕ) (ys : List ℕ) → returns e home x ys ≡ true → (p : ℕ) × Leads e x p (x ∷ ys) × (reads_of e p home ≡ true)
returns_to e home x [] h = (x, (refl, refl), h)
returns_to e home x (y ∷ ys) h =
    let a = and_parts (reads_of e x y) (returns e home y ys) h in
    let b = returns_to e home y ys a.1 in
    (b.0, (refl, a.0, b.1), b.2)

pub returns_from : (e : Elab) (home x p y : ℕ) (ys : List ℕ) → Leads e x p (y ∷ ys) → reads_of e p home ≡ true → returns e home y ys ≡ true
returns_from e home x p y [] l r = subst (λ o. reads_of e o home ≡ true) (sym l.1) r
returns_from e home x p y (z ∷ zs) l r = and_true (reads_of e y z) (returns e home z zs) l.1 (returns_from e home z p z zs l.2 r)

pub loop_is : (e : Elab) (y : ℕ) (ys : List ℕ) → is_loop e (y ∷ ys) ≡ true → IsLoopFrom e y (y ∷ ys)
loop_is e y ys h = returns_to e y y ys h

first_is : (e : Elab) (x p y : ℕ) (ys : List ℕ) → Leads e x p (y ∷ ys) → y ≡ x
first_is e x p y [] l = l.0
first_is e x p y (z ∷ zs) l = l.0

pub is_the_loop : (e : Elab) (x y : ℕ) (ys : List ℕ) → IsLoopFrom e x (y ∷ ys) → is_loop e (y ∷ ys) ≡ true
is_the_loop e x y ys l =
    returns_from e y x l.0 y ys l.1 (subst (λ o. reads_of e l.0 o ≡ true) (sym (first_is e x l.0 y ys l.1)) l.2)

-- all that stand in it are signals
pub all_below : (e : Elab) → Formed e → (x p q : ℕ) (ys : List ℕ) → Leads e x p ys → reads_of e p q ≡ true → AllBelow (length e.signals) ys
all_below e f x p q [] l r = elim l [ ]
all_below e f x p q (y ∷ []) l r = (subst (λ o. o < length e.signals) (sym l.1) (reader_below e f p q r), tt)
all_below e f x p q (y ∷ z ∷ zs) l r = (reader_below e f y z l.1, all_below e f z p q (z ∷ zs) l.2 r)

-- ---- a shortest loop has no signal twice
abbrev Shorter : Elab → ℕ → ℕ → ℕ → Type 0
Shorter e x p n = (ys : List ℕ) × Leads e x p ys × (length ys ≤ n)

from_there : (e : Elab) (x p z : ℕ) (ys : List ℕ) → Leads e x p ys → has ys z ≡ true → Shorter e z p (length ys)
from_there e x p z [] l h = elim l [ ]
from_there e x p z (y ∷ []) l h = step (or_cases (nat_eq z y) false h)
  where
    step : (nat_eq z y ≡ true) ⊎ (false ≡ true) → Shorter e z p 1
    step (inl k) = (y ∷ [], (sym (eqb-true z y k), l.1), omega arith)
    step (inr k) = cc
from_there e x p z (y ∷ w ∷ ws) l h = step (or_cases (nat_eq z y) (has (w ∷ ws) z) h) (from_there e w p z (w ∷ ws) l.2)
  where
    step : (nat_eq z y ≡ true) ⊎ (has (w ∷ ws) z ≡ true) → (has (w ∷ ws) z ≡ true → Shorter e z p (length (w ∷ ws))) → Shorter e z p (length (y ∷ w ∷ ws))
    step (inl k) g = (y ∷ w ∷ ws, (sym (eqb-true z y k), l.1, l.2), omega arith)
    step (inr k) g = let b = g k in (b.0, b.1, let i = b.2 in omega (arith, i))

lead_on : (e : Elab) (x y z p : ℕ) (ys : List ℕ) → y ≡ x → reads_of e y z ≡ true → Leads e z p ys → Leads e x p (y ∷ ys)
lead_on e x y z p [] h r l = elim l [ ]
lead_on e x y z p (w ∷ []) h r l = (h, subst (λ o. reads_of e y o ≡ true) (sym l.0) r, (refl, l.1))
lead_on e x y z p (w ∷ v ∷ vs) h r l = (h, subst (λ o. reads_of e y o ≡ true) (sym l.0) r, (refl, l.1, l.2))

distinct_or_shorter : (e : Elab) (x p : ℕ) (ys : List ℕ) → Leads e x p ys → IsDistinct nat_eq ys ⊎ ((zs : List ℕ) × Leads e x p zs × (length zs < length ys))
unfolding IsDistinct
distinct_or_shorter e x p [] l = elim l [ ]
distinct_or_shorter e x p (y ∷ []) l = inl (tt, tt)
distinct_or_shorter e x p (y ∷ w ∷ ws) l = step (cases_Bool (has (w ∷ ws) y)) (distinct_or_shorter e w p (w ∷ ws) l.2)
  where
    step : (has (w ∷ ws) y ≡ true) ⊎ (has (w ∷ ws) y ≡ false)
        → IsDistinct nat_eq (w ∷ ws) ⊎ ((zs : List ℕ) × Leads e w p zs × (length zs < length (w ∷ ws)))
        → IsDistinct nat_eq (y ∷ w ∷ ws) ⊎ ((zs : List ℕ) × Leads e x p zs × (length zs < length (y ∷ w ∷ ws)))
    step (inl h) g = let b = from_there e w p y (w ∷ ws) l.2 h in inr (b.0, subst (λ o. Leads e o p b.0) l.0 b.1, let i = b.2 in omega (arith, i))
    step (inr h) (inl d) = inl (all_apart (w ∷ ws) y h, d)
    step (inr h) (inr s) = inr (y ∷ s.0, lead_on e x y w p s.0 l.0 l.1 s.1, let i = s.2 in omega (arith, i))

below_has : (n : ℕ) (ys : List ℕ) → AllBelow n ys → (z : ℕ) → has ys z ≡ true → z < n
below_has n (y ∷ ys) b z h = ⊎_elim (λ k. subst (λ o. o < n) (sym (eqb-true z y k)) b.0) (λ k. below_has n ys b.1 z k) (or_cases (nat_eq z y) (has ys z) h)
below_has n [] b z h = cc

-- a shortest loop has at most as many signals as there are
pub not_longer : (e : Elab) → Formed e → (x : ℕ) (xs : List ℕ) → IsNamedLoop e x xs → length xs ≤ length e.signals
not_longer e f x xs l = step (distinct_or_shorter e x l.loop.0 xs l.loop.1)
  where
    step : IsDistinct nat_eq xs ⊎ ((zs : List ℕ) × Leads e x l.loop.0 zs × (length zs < length xs)) → length xs ≤ length e.signals
    step (inl d) = length-le_from_distinct_below xs (length e.signals) d
        (λ z k. below_has (length e.signals) xs (all_below e f x l.loop.0 x xs l.loop.1 l.loop.2) z (has_any xs z ∙ k))
    step (inr s) = absurd (let k : length xs ≤ length s.0 = l.shortest s.0 (l.loop.0, s.1, l.loop.2) in let i = s.2 in omega (arith, k, i))

-- ---- the loop that is found
not_from : (e : Elab) (n y : ℕ) → ((ys : List ℕ) → IsLoopFrom e y (y ∷ ys) → ⊥) → find (is_loop e) (ways_from n y) ≡ None
not_from e n y never =
    none_at (is_loop e) (λ k. map (λ xs. y ∷ xs) (lists_of n k)) n
    (λ j h. find_map (is_loop e) (λ (xs : List ℕ). y ∷ xs) (lists_of n j)
    ∙ ap (λ o. option_map (λ (xs : List ℕ). y ∷ xs) o) (none_of (λ m. is_loop e (y ∷ m)) n j (λ m k. shut (is_loop e (y ∷ m)) (λ w. never m (loop_is e y m w)))))

named_at : (e : Elab) → Formed e → (x y : ℕ) (ys : List ℕ) → IsNamedLoop e x (y ∷ ys) → find (is_loop e) (ways_from (length e.signals) x) ≡ Some (y ∷ ys)
named_at e f x y ys l =
    let same : y ≡ x = first_is e x l.loop.0 y ys l.loop.1 in
    let short : length (y ∷ ys) ≤ length e.signals = not_longer e f x (y ∷ ys) l in
    let below : AllBelow (length e.signals) ys = (all_below e f x l.loop.0 x (y ∷ ys) l.loop.1 l.loop.2).1 in
    let there : is_loop e (x ∷ ys) ≡ true = subst (λ o. is_loop e (o ∷ ys) ≡ true) same (is_the_loop e x y ys l.loop) in
    find_at (is_loop e) (λ k. map (λ xs. x ∷ xs) (lists_of (length e.signals) k)) (length e.signals) (length ys) (y ∷ ys) (omega (arith, short))
    (λ j h. find_map (is_loop e) (λ (xs : List ℕ). x ∷ xs) (lists_of (length e.signals) j)
    ∙ ap (λ o. option_map (λ (xs : List ℕ). x ∷ xs) o) (none_of (λ m. is_loop e (x ∷ m)) (length e.signals) j
    (λ m k. shut (is_loop e (x ∷ m)) (λ w. absurd (let q : length (y ∷ ys) ≤ length (x ∷ m) = l.shortest (x ∷ m) (loop_is e x m w) in omega (arith, q, k, h))))))
    (find_map (is_loop e) (λ (xs : List ℕ). x ∷ xs) (lists_of (length e.signals) (length ys))
    ∙ ap (λ o. option_map (λ (xs : List ℕ). x ∷ xs) o)
    (least_found (λ m. is_loop e (x ∷ m)) (length e.signals) ys below there
    (λ m k w. behind_first x ys m (subst (λ o. NotAfter (o ∷ ys) (x ∷ m)) same (l.least (x ∷ m) (loop_is e x m w) (ap suc k)))))
    ∙ ap (λ o. Some (o ∷ ys)) (sym same))

pub found_named : (e : Elab) → Formed e → (x : ℕ) (xs : List ℕ) → IsNamedLoop e x xs → loop_of e ≡ Some xs
found_named e f x [] l = absurd (let k = l.loop.1 in k)
found_named e f x (y ∷ ys) l =
    find_at (is_loop e) (ways_from (length e.signals)) (length e.signals) x (y ∷ ys)
    (let b = (all_below e f x l.loop.0 x (y ∷ ys) l.loop.1 l.loop.2).0 in subst (λ o. o < length e.signals) (first_is e x l.loop.0 y ys l.loop.1) b)
    (λ j h. not_from e (length e.signals) j (λ m k. absurd (let q : x ≤ j = l.first j (j ∷ m) k in omega (arith, q, h))))
    (named_at e f x y ys l)

-- ---- where there is no loop none is found
leads_round : (e : Elab) (x p q : ℕ) (ys : List ℕ) → Leads e x p ys → reads_of e p q ≡ true → Loops e q x
leads_round e x p q [] l r = elim l [ ]
leads_round e x p q (y ∷ []) l r = ends x (subst (λ o. reads_of e o q ≡ true) (sym l.1 ∙ l.0) r)
leads_round e x p q (y ∷ z ∷ zs) l r = goes x z (subst (λ o. reads_of e o z ≡ true) l.0 l.1) (leads_round e z p q (z ∷ zs) l.2 r)

pub none_found : (e : Elab) → NoLoop e → loop_of e ≡ None
none_found e none =
    none_at (is_loop e) (ways_from (length e.signals)) (length e.signals)
    (λ j h. not_from e (length e.signals) j (λ m k. none j (leads_round e j k.0 j (j ∷ m) k.1 k.2)))
