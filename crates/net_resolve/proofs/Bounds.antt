-- What stands in choices: values over the elaboration's signals, and condition signals behind these.
use Rattle.std.proofs.Common.{◌≡◌, subst, ℕ, ◌+◌, ◌<◌, ◌≤◌, Bool, true, false, ◌||◌, ◌&&◌, nat_eq, refl, Option, Some, None, cond, [], ◌++◌, arith, ⊎_elim}
use Rattle.std.specs.List.{All}
use Rattle.std.proofs.lemmas.List.Elements.{All-head, All-tail}
use Rattle.std.proofs.lemmas.Bool.{or_cases, or_left, or_right, eqb-true}
use Rattle.net_core.specs.declared.tree.GroundExpr.{GroundExpr}
use Rattle.net_core.specs.Values.{mentions}
use Rattle.net_core.specs.Body.{Body, done, declare, set, when, whens}
use Rattle.net_core.specs.Last.{source_mentions, sinks}
use Rattle.net_core.specs.Nets.{Choices, nothing, take, branch, full, choices_read}
use Rattle.net_core.specs.WidthRules.{Use, uses, reset_uses, value_uses}
use Rattle.net_core.proofs.FormedFacts.{All-left, All-right}
use Rattle.net_resolve.proofs.Seen.{seen, joined, append}
use Rattle.net_resolve.proofs.Reading.{through}

abbrev pub Bounded : ℕ → Choices → Type 0
Bounded own nothing = Unit {0}
Bounded own (take e rest) = ((y : ℕ) → source_mentions e y ≡ true → y < own) × Bounded own rest
Bounded own (branch k t o rest) = (own ≤ k) × Bounded own t × Bounded own o × Bounded own rest

pub bounded-append : (own : ℕ) (a b : Choices) → Bounded own a → Bounded own b → Bounded own (append a b)
bounded-append own nothing b p q = q
bounded-append own (take e rest) b p q = (p.0, bounded-append own rest b p.1 q)
bounded-append own (branch k t o rest) b p q = (p.0, p.1, p.2, bounded-append own rest b p.3 q)

-- the expression is over signals below own
abbrev pub Over : ℕ → Use → Type 0
Over own u = (y : ℕ) → mentions u.expr y ≡ true → y < own

value_over : (own line : ℕ) (e : Option GroundExpr) → All (Over own) (value_uses line e) → (y : ℕ) → source_mentions e y ≡ true → y < own
value_over own line None h y m = cc
value_over own line (Some e) h y m = All-head (Over own) _ [] h y m

pub seen_bounded : (own x n : ℕ) (b : Body) (acc : Choices) → own ≤ n → All (Over own) (uses b) → Bounded own acc → Bounded own (seen x n b acc)
seen_bounded own x n done acc l h a = a
seen_bounded own x n (declare y line reset rest) acc l h a =
    seen_bounded own x n rest acc l (All-right (Over own) (reset_uses line reset) (uses rest) h) a
seen_bounded own x n (set line y e rest) acc l h a =
    seen_bounded own x n rest (cond (nat_eq x y) (take e nothing) acc) l (All-right (Over own) (value_uses line e) (uses rest) h) (step (nat_eq x y))
  where
    step : (t : Bool) → Bounded own (cond t (take e nothing) acc)
    step true = (value_over own line e (All-left (Over own) (value_uses line e) (uses rest) h), tt)
    step false = a
seen_bounded own x n (when line c t o rest) acc l h a =
    let k = All-tail (Over own) _ (uses t ++ (uses o ++ uses rest)) h in
    let u = All-right (Over own) (uses t) (uses o ++ uses rest) k in
    seen_bounded own x (n + 1 + whens t + whens o) rest _ (far n (whens t) (whens o) l) (All-right (Over own) (uses o) (uses rest) u)
    (step (sinks x t || sinks x o)
    (seen_bounded own x (n + 1) t nothing (near n l) (All-left (Over own) (uses t) (uses o ++ uses rest) k) tt)
    (seen_bounded own x (n + 1 + whens t) o nothing (mid n (whens t) l) (All-left (Over own) (uses o) (uses rest) u) tt))
  where
    near : (m : ℕ) → own ≤ m → own ≤ m + 1
    near m l = omega (arith, l)

    mid : (m a : ℕ) → own ≤ m → own ≤ m + 1 + a
    mid m a l = omega (arith, l)

    far : (m a b : ℕ) → own ≤ m → own ≤ m + 1 + a + b
    far m a b l = omega (arith, l)

    join : (f : Bool) (p q : Choices) → Bounded own p → Bounded own q → Bounded own (cond f (branch n p q nothing) (append acc (branch n p q nothing)))
    join true p q bp bq = (l, bp, bq, tt)
    join false p q bp bq = bounded-append own acc (branch n p q nothing) a (l, bp, bq, tt)

    step : (s : Bool) → Bounded own (seen x (n + 1) t nothing) → Bounded own (seen x (n + 1 + whens t) o nothing)
        → Bounded own (cond s (joined acc n (seen x (n + 1) t nothing) (seen x (n + 1 + whens t) o nothing)) acc)
    step true p q = join (full (seen x (n + 1) t nothing) && full (seen x (n + 1 + whens t) o nothing)) _ _ p q
    step false p q = a

not_below : (k own : ℕ) → own ≤ k → k < own → ⊥
not_below k own l h = absurd (omega (arith, l, h))

other_side : (y k own : ℕ) → y < own → own ≤ k → nat_eq y k ≡ true → ⊥
other_side y k own h l e = not_below k own l (subst (λ z. z < own) (eqb-true y k e) h)

-- a signal that stands in the choices is read through them
pub read_directly : (q : ℕ → ℕ → Bool) (own y : ℕ) (c : Choices) → y < own → Bounded own c → choices_read c y ≡ true → through q y c ≡ true
read_directly q own y nothing h b r = cc
read_directly q own y (take e rest) h b r = ⊎_elim
    (λ m. or_left (source_mentions e y) (through q y rest) m)
    (λ m. or_right (source_mentions e y) (through q y rest) (read_directly q own y rest h b.1 m))
    (or_cases (source_mentions e y) (choices_read rest y) r)
read_directly q own y (branch k t o rest) h b r = ⊎_elim
    (λ m. absurd (other_side y k own h b.0 m))
    (λ m. ⊎_elim
    (λ i. or_left _ (through q y rest) (or_right (q k y) _ (or_left (through q y t) (through q y o) (read_directly q own y t h b.1 i))))
    (λ m. ⊎_elim
    (λ i. or_left _ (through q y rest) (or_right (q k y) _ (or_right (through q y t) (through q y o) (read_directly q own y o h b.2 i))))
    (λ i. or_right (q k y || (through q y t || through q y o)) (through q y rest) (read_directly q own y rest h b.3 i))
    (or_cases (choices_read o y) (choices_read rest y) m))
    (or_cases (choices_read t y) (choices_read o y || choices_read rest y) m))
    (or_cases (nat_eq y k) (choices_read t y || (choices_read o y || choices_read rest y)) r)

-- and one that a condition signal in the choices reads
pub read_over : (q : ℕ → ℕ → Bool) (own y j : ℕ) (c : Choices) → own ≤ j → q j y ≡ true → Bounded own c → choices_read c j ≡ true → through q y c ≡ true
read_over q own y j nothing h g b r = cc
read_over q own y j (take e rest) h g b r = ⊎_elim
    (λ m. absurd (not_below j own h (b.0 j m)))
    (λ m. or_right (source_mentions e y) (through q y rest) (read_over q own y j rest h g b.1 m))
    (or_cases (source_mentions e j) (choices_read rest j) r)
read_over q own y j (branch k t o rest) h g b r = ⊎_elim
    (λ m. or_left _ (through q y rest) (or_left (q k y) (through q y t || through q y o) (subst (λ z. q z y ≡ true) (eqb-true j k m) g)))
    (λ m. ⊎_elim
    (λ i. or_left _ (through q y rest) (or_right (q k y) _ (or_left (through q y t) (through q y o) (read_over q own y j t h g b.1 i))))
    (λ m. ⊎_elim
    (λ i. or_left _ (through q y rest) (or_right (q k y) _ (or_right (through q y t) (through q y o) (read_over q own y j o h g b.2 i))))
    (λ i. or_right (q k y || (through q y t || through q y o)) (through q y rest) (read_over q own y j rest h g b.3 i))
    (or_cases (choices_read o j) (choices_read rest j) m))
    (or_cases (choices_read t j) (choices_read o j || choices_read rest j) m))
    (or_cases (nat_eq j k) (choices_read t j || (choices_read o j || choices_read rest j)) r)

-- how y is read through choices
pub data Ways (q : ℕ → ℕ → Bool) (own y : ℕ) (c : Choices) : Type 0 where
  stands : choices_read c y ≡ true → Ways q own y c
  asks : (k : ℕ) → own ≤ k → choices_read c k ≡ true → q k y ≡ true → Ways q own y c

widen : (q : ℕ → ℕ → Bool) (own y : ℕ) (c d : Choices) → ((z : ℕ) → choices_read c z ≡ true → choices_read d z ≡ true) → Ways q own y c → Ways q own y d
widen q own y c d f (stands h) = stands (f y h)
widen q own y c d f (asks k l h g) = asks k l (f k h) g

same_number : (k : ℕ) → nat_eq k k ≡ true
same_number k = Rattle.std.proofs.lemmas.Bool.eq-eqb k k refl

pub ways : (q : ℕ → ℕ → Bool) (own y : ℕ) (c : Choices) → Bounded own c → through q y c ≡ true → Ways q own y c
ways q own y nothing b h = cc
ways q own y (take e rest) b h = ⊎_elim
    (λ m. stands (or_left (source_mentions e y) (choices_read rest y) m))
    (λ m. widen q own y rest (take e rest) (λ z r. or_right (source_mentions e z) (choices_read rest z) r) (ways q own y rest b.1 m))
    (or_cases (source_mentions e y) (through q y rest) h)
ways q own y (branch k t o rest) b h = ⊎_elim
    (λ m. ⊎_elim
    (λ i. asks k b.0 (or_left (nat_eq k k) _ (same_number k)) i)
    (λ m. ⊎_elim
    (λ i. widen q own y t (branch k t o rest) (λ z r. or_right (nat_eq z k) _ (or_left (choices_read t z) _ r)) (ways q own y t b.1 i))
    (λ i. widen q own y o (branch k t o rest) (λ z r. or_right (nat_eq z k) _ (or_right (choices_read t z) _ (or_left (choices_read o z) _ r))) (ways q own y o b.2 i))
    (or_cases (through q y t) (through q y o) m))
    (or_cases (q k y) (through q y t || through q y o) m))
    (λ m. widen q own y rest (branch k t o rest) (λ z r. or_right (nat_eq z k) _ (or_right (choices_read t z) _ (or_right (choices_read o z) (choices_read rest z) r))) (ways q own y rest b.3 m))
    (or_cases (q k y || (through q y t || through q y o)) (through q y rest) h)
