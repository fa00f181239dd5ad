-- Where no number is reached from itself, an order exists: each number in turn that reads only what was taken.
use Rattle.std.proofs.Common.{◌≡◌, ◌∙◌, sym, ap, subst, ℕ, zero, suc, ◌+◌, ◌<◌, ◌≤◌, Bool, true, false, not, List, [], ◌∷◌, ◌||◌, ◌&&◌, nat_eq, ◌⊎◌, inl, inr, refl, arith, ⊎_elim, length}
use Rattle.std.specs.List.{IsDistinct, list_any, AllByRecursion}
use Rattle.std.proofs.lemmas.Map.Steps.{length-le_from_distinct_below}
use Rattle.std.proofs.lemmas.Bool.{or_cases, or_parts, cases_Bool, both_ways, eqb-true, cases_eq}
use Rattle.net_core.specs.Rules.{Rules, has, Ordered}
use Rattle.net_core.proofs.RulesFacts.{onto}

-- x reaches p by at least one step
pub data Path (R : Rules) (p : ℕ) : ℕ → Type 0 where
  last : (x : ℕ) → R.reads x p ≡ true → Path R p x
  more : (x y : ℕ) → R.reads x y ≡ true → Path R p y → Path R p x

abbrev pub NoCycle : Rules → Type 0
NoCycle R = (x : ℕ) → Path R x x → ⊥

pub extend : (R : Rules) (p y z : ℕ) → Path R p z → R.reads p y ≡ true → Path R y z
extend R p y z (last x r) h = more z p r (last p h)
extend R p y z (more x w r t) h = more z w r (extend R p y w t h)

pub has_any : (xs : List ℕ) (y : ℕ) → has xs y ≡ list_any (nat_eq y) xs
has_any [] y = refl
has_any (x ∷ xs) y = ap (λ b. nat_eq y x || b) (has_any xs y)

pub all_apart : (xs : List ℕ) (y : ℕ) → has xs y ≡ false → AllByRecursion (λ z. nat_eq y z ≡ false) xs
all_apart [] y h = tt
all_apart (x ∷ xs) y h = let p = or_parts (nat_eq y x) (has xs y) h in (p.0, all_apart xs y p.1)

-- among numbers below n that each read one of their kind, there is a cycle
pub chase : (R : Rules) (n : ℕ) (Left : ℕ → Type 0) → NoCycle R
    → ((x : ℕ) → Left x → x < n)
    → ((x : ℕ) → Left x → (y : ℕ) × (R.reads x y ≡ true) × Left y)
    → (fuel x : ℕ) (ys : List ℕ) → Left x → has ys x ≡ false → IsDistinct nat_eq ys → ((z : ℕ) → has ys z ≡ true → z < n) → ((z : ℕ) → has ys z ≡ true → Path R x z)
    → length ys + fuel ≡ n → ⊥
unfolding IsDistinct
chase R n Left acyclic below next zero x ys l fresh d b p e =
    let m = length-le_from_distinct_below (x ∷ ys) n (all_apart ys x fresh, d) (λ q h. ⊎_elim
    (λ k. subst (λ t. t < n) (sym (eqb-true q x k)) (below x l))
    (λ k. b q (has_any ys q ∙ k))
    (or_cases (nat_eq q x) (list_any (nat_eq q) ys) h)) in
    over ys m e
  where
    over : (zs : List ℕ) → suc (length zs) ≤ n → length zs + 0 ≡ n → ⊥
    over zs h k = absurd (omega arith)
chase R n Left acyclic below next (suc fuel) x ys l fresh d b p e = step (next x l) (cases_Bool (has (x ∷ ys) (next x l).0)) (λ y ly f dd bb pp ee. chase R n Left acyclic below next fuel y (x ∷ ys) ly f dd bb pp ee)
  where
    back : (y : ℕ) → R.reads x y ≡ true → has (x ∷ ys) y ≡ true → Path R y y
    back y r h = ⊎_elim
        (λ k. let q : y ≡ x = eqb-true y x k in subst (λ t. Path R y t) (sym q) (last x r))
        (λ k. extend R x y y (p y k) r)
        (or_cases (nat_eq y x) (has ys y) h)

    onward : (y : ℕ) → R.reads x y ≡ true → (z : ℕ) → has (x ∷ ys) z ≡ true → Path R y z
    onward y r z h = ⊎_elim
        (λ k. let q : z ≡ x = eqb-true z x k in subst (λ t. Path R y t) (sym q) (last x r))
        (λ k. extend R x y z (p z k) r)
        (or_cases (nat_eq z x) (has ys z) h)

    bounded : (z : ℕ) → has (x ∷ ys) z ≡ true → z < n
    bounded z h = ⊎_elim
        (λ k. subst (λ t. t < n) (sym (eqb-true z x k)) (below x l))
        (λ k. b z k)
        (or_cases (nat_eq z x) (has ys z) h)

    count : length (x ∷ ys) + fuel ≡ n
    count = omega (arith, e)

    step : (c : (y : ℕ) × (R.reads x y ≡ true) × Left y) → (has (x ∷ ys) c.0 ≡ true) ⊎ (has (x ∷ ys) c.0 ≡ false)
        → ((y : ℕ) → Left y → has (x ∷ ys) y ≡ false → IsDistinct nat_eq (x ∷ ys) → ((z : ℕ) → has (x ∷ ys) z ≡ true → z < n) → ((z : ℕ) → has (x ∷ ys) z ≡ true → Path R y z) → length (x ∷ ys) + fuel ≡ n → ⊥)
        → ⊥
    step c (inl h) go = acyclic c.0 (back c.0 c.1 h)
    step c (inr h) go = go c.0 c.2 h (all_apart ys x fresh, d) bounded (onward c.0 c.1) count

-- ---- the order
-- all numbers below n that x reads are in the list
abbrev pub ready_below : Rules → List ℕ → ℕ → ℕ → Bool
ready_below R seen x zero = true
ready_below R seen x (suc n) = (not (R.reads x n) || has seen n) && ready_below R seen x n

pub data Ready (R : Rules) (seen : List ℕ) (n x : ℕ) : Type 0 where
  is_ready : ((y : ℕ) → y < n → R.reads x y ≡ true → has seen y ≡ true) → Ready R seen n x
  waits : (y : ℕ) → y < n → R.reads x y ≡ true → has seen y ≡ false → Ready R seen n x

pub judge : (R : Rules) (seen : List ℕ) (x n : ℕ) → Ready R seen n x
judge R seen x zero = is_ready (λ y h r. absurd (none y h))
  where
    none : (y : ℕ) → y < 0 → ⊥
    none y h = absurd (omega arith)
judge R seen x (suc n) = step (judge R seen x n) (cases_Bool (R.reads x n)) (cases_Bool (has seen n))
  where
    wider : (y : ℕ) → y < n → y < suc n
    wider y h = omega arith

    self : n < suc n
    self = omega arith

    split : (y : ℕ) → y < suc n → (y ≡ n) ⊎ (y < n)
    split y h = ⊎_elim (λ e. inl e) (λ k. inr (smaller y h k)) (cases y)
      where
        smaller : (z : ℕ) → z < suc n → (z ≡ n → ⊥) → z < n
        smaller z g k = omega (arith, g, k)

        cases : (z : ℕ) → (z ≡ n) ⊎ (z ≡ n → ⊥)
        cases z = cases_eq z n

    step : Ready R seen n x → (R.reads x n ≡ true) ⊎ (R.reads x n ≡ false) → (has seen n ≡ true) ⊎ (has seen n ≡ false) → Ready R seen (suc n) x
    step (waits y h r f) c k = waits y (wider y h) r f
    step (is_ready g) (inl r) (inr f) = waits n self r f
    step (is_ready g) (inl r) (inl t) = is_ready (λ y h q. ⊎_elim (λ e. subst (λ z. has seen z ≡ true) (sym e) t) (λ l. g y l q) (split y h))
    step (is_ready g) (inr r) k = is_ready (λ y h q. ⊎_elim (λ e. absurd (both_ways (R.reads x n) r (subst (λ z. R.reads x z ≡ true) e q))) (λ l. g y l q) (split y h))

-- a number below k that isn't taken and may be, or none
pub data Find (R : Rules) (seen : List ℕ) (n k : ℕ) : Type 0 where
  free : (x : ℕ) → x < k → has seen x ≡ false → ((y : ℕ) → y < n → R.reads x y ≡ true → has seen y ≡ true) → Find R seen n k
  stuck : ((x : ℕ) → x < k → has seen x ≡ false → (y : ℕ) × (R.reads x y ≡ true) × (y < n) × (has seen y ≡ false)) → Find R seen n k

pub find : (R : Rules) (seen : List ℕ) (n k : ℕ) → Find R seen n k
find R seen n zero = stuck (λ x h f. absurd (none x h))
  where
    none : (x : ℕ) → x < 0 → ⊥
    none x h = absurd (omega arith)
find R seen n (suc k) = step (find R seen n k) (cases_Bool (has seen k)) (judge R seen k n)
  where
    wider : (y : ℕ) → y < k → y < suc k
    wider y h = omega arith

    self : k < suc k
    self = omega arith

    smaller : (z : ℕ) → z < suc k → (z ≡ k → ⊥) → z < k
    smaller z g m = omega (arith, g, m)

    split : (y : ℕ) → y < suc k → (y ≡ k) ⊎ (y < k)
    split y h = ⊎_elim (λ e. inl e) (λ m. inr (smaller y h m)) (cases_eq y k)

    step : Find R seen n k → (has seen k ≡ true) ⊎ (has seen k ≡ false) → Ready R seen n k → Find R seen n (suc k)
    step (free x h f g) c r = free x (wider x h) f g
    step (stuck g) (inl t) r = stuck (λ x h f. ⊎_elim (λ e. absurd (both_ways (has seen x) f (subst (λ z. has seen z ≡ true) (sym e) t))) (λ l. g x l f) (split x h))
    step (stuck g) (inr f) (is_ready r) = free k self f r
    step (stuck g) (inr f) (waits y h r u) = stuck (λ x m v. ⊎_elim (λ e. (y, subst (λ z. R.reads z y ≡ true) (sym e) r, h, u)) (λ l. g x l v) (split x m))

-- the rest of an order
pub record Rest (R : Rules) (n : ℕ) (seen : List ℕ) : Type 0 where
  pub order : List ℕ
  pub ordered : Ordered R seen order
  pub all : (x : ℕ) → x < n → has (onto order seen) x ≡ true
  pub own : (x : ℕ) → has order x ≡ true → x < n

full_list : (n : ℕ) (seen : List ℕ) (x : ℕ) → IsDistinct nat_eq seen → ((z : ℕ) → has seen z ≡ true → z < n) → length seen + 0 ≡ n → x < n → has seen x ≡ false → ⊥
unfolding IsDistinct
full_list n seen x d b e h f =
    let m = length-le_from_distinct_below (x ∷ seen) n (all_apart seen x f, d) (λ q k. ⊎_elim
    (λ i. subst (λ t. t < n) (sym (eqb-true q x i)) h)
    (λ i. b q (has_any seen q ∙ i))
    (or_cases (nat_eq q x) (list_any (nat_eq q) seen) k)) in
    over seen m e
  where
    over : (zs : List ℕ) → suc (length zs) ≤ n → length zs + 0 ≡ n → ⊥
    over zs h k = absurd (omega arith)

zero_plus : (m : ℕ) → 0 + m ≡ m
zero_plus m = omega arith

some_true : (b : Bool) → (b ≡ false → ⊥) → b ≡ true
some_true true h = refl
some_true false h = absurd (h refl)

pub rest_of : (R : Rules) (n : ℕ) → NoCycle R → ((x y : ℕ) → R.reads x y ≡ true → y < n)
    → (fuel : ℕ) (seen : List ℕ) → IsDistinct nat_eq seen → ((z : ℕ) → has seen z ≡ true → z < n) → length seen + fuel ≡ n → Rest R n seen
unfolding IsDistinct
rest_of R n acyclic within zero seen d b e =
    record { order = []; ordered = tt; all = λ x h. some_true (has seen x) (λ f. full_list n seen x d b e h f); own = λ x h. cc }
rest_of R n acyclic within (suc fuel) seen d b e = step (find R seen n n) (λ x f dd bb ee. rest_of R n acyclic within fuel (x ∷ seen) dd bb ee)
  where
    bounded : (x : ℕ) → x < n → (z : ℕ) → has (x ∷ seen) z ≡ true → z < n
    bounded x h z k = ⊎_elim (λ i. subst (λ t. t < n) (sym (eqb-true z x i)) h) (λ i. b z i) (or_cases (nat_eq z x) (has seen z) k)

    count : (x : ℕ) → length (x ∷ seen) + fuel ≡ n
    count x = omega (arith, e)

    own_too : (x : ℕ) (xs : List ℕ) → x < n → ((z : ℕ) → has xs z ≡ true → z < n) → (z : ℕ) → has (x ∷ xs) z ≡ true → z < n
    own_too x xs h g z k = ⊎_elim (λ i. subst (λ t. t < n) (sym (eqb-true z x i)) h) (λ i. g z i) (or_cases (nat_eq z x) (has xs z) k)

    behind : (x : ℕ) → x < n → has seen x ≡ false → ((y : ℕ) → y < n → R.reads x y ≡ true → has seen y ≡ true) → Rest R n (x ∷ seen) → Rest R n seen
    behind x h f g r = record {
      order = x ∷ r.order;
      ordered = (f, (λ y q. g y (within x y q) q), r.ordered);
      all = r.all;
      own = own_too x r.order h r.own;
    }

    step : Find R seen n n
        → ((x : ℕ) → has seen x ≡ false → IsDistinct nat_eq (x ∷ seen) → ((z : ℕ) → has (x ∷ seen) z ≡ true → z < n) → length (x ∷ seen) + fuel ≡ n → Rest R n (x ∷ seen))
        → Rest R n seen
    step (free x h f g) go = behind x h f g (go x f (all_apart seen x f, d) (bounded x h) (count x))
    step (stuck g) go = record {
      order = [];
      ordered = tt;
      all = λ x h. some_true (has seen x) (λ f. chase R n (λ z. (z < n) × (has seen z ≡ false)) acyclic (λ z l. l.0)
          (λ z l. let c = g z l.0 l.1 in (c.0, c.1, (c.2, c.3)))
          n x [] (h, f) refl tt (λ z k. cc) (λ z k. cc) (zero_plus n));
      own = λ x h. cc;
    }

-- without a cycle there is an order
pub order_exists : (R : Rules) (n : ℕ) → NoCycle R → ((x y : ℕ) → R.reads x y ≡ true → y < n) → Rest R n []
unfolding IsDistinct
order_exists R n acyclic within = rest_of R n acyclic within n [] tt (λ z h. cc) (zero_plus n)
