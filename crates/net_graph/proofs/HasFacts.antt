-- What is in a list of numbers.
use Rattle.std.proofs.Common.{◌≡◌, ◌∙◌, sym, ap, subst, ℕ, zero, suc, ◌+◌, ◌<◌, Bool, true, false, List, [], ◌∷◌, ◌++◌, ◌||◌, nat_eq, ◌⊎◌, inl, inr, refl, arith, ⊎_elim, length, take, get_or}
use Rattle.std.proofs.lemmas.Bool.{or_cases, or_left, or_right, eq-eqb, eqb-true}
use Rattle.net_core.specs.Rules.{has}

pub has_append : (xs ys : List ℕ) (z : ℕ) → has (xs ++ ys) z ≡ (has xs z || has ys z)
has_append [] ys z = refl
has_append (x ∷ xs) ys z = ap (λ b. nat_eq z x || b) (has_append xs ys z) ∙ assoc (nat_eq z x) (has xs z) (has ys z)
  where
    assoc : (a b c : Bool) → (a || (b || c)) ≡ ((a || b) || c)
    assoc true b c = refl
    assoc false b c = refl

pub has_head : (x : ℕ) (xs : List ℕ) → has (x ∷ xs) x ≡ true
has_head x xs = or_left (nat_eq x x) (has xs x) (eq-eqb x x refl)

pub has_at : (xs : List ℕ) (i d : ℕ) → i < length xs → has xs (get_or xs i d) ≡ true
has_at [] i d h = absurd (omega arith)
has_at (x ∷ xs) zero d h = has_head x xs
has_at (x ∷ xs) (suc i) d h = or_right (nat_eq (get_or xs i d) x) (has xs (get_or xs i d)) (has_at xs i d (omega arith))

-- the first of a list, and one more
only_one : (x z : ℕ) → (nat_eq z x || false) ≡ true → z ≡ x
only_one x z q = ⊎_elim (λ a. eqb-true z x a) (λ b. absurd cc) (or_cases (nat_eq z x) false q)

take_suc : (xs : List ℕ) (i d z : ℕ) → i < length xs → has (take (suc i) xs) z ≡ true → (has (take i xs) z ≡ true) ⊎ (z ≡ get_or xs i d)
take_suc [] i d z h k = absurd (omega arith)
take_suc (x ∷ xs) zero d z h k = inr (only_one x z k)
take_suc (x ∷ xs) (suc i) d z h k = ⊎_elim
    (λ a. inl (or_left (nat_eq z x) (has (take i xs) z) a))
    (λ b. ⊎_elim (λ m. inl (or_right (nat_eq z x) (has (take i xs) z) m)) (λ e. inr e) (take_suc xs i d z (omega arith) b))
    (or_cases (nat_eq z x) (has (take (suc i) xs) z) k)

plus_one : (n : ℕ) → suc n ≡ n + 1
plus_one n = omega arith

pub has_take : (xs : List ℕ) (i d z : ℕ) → i < length xs → has (take (i + 1) xs) z ≡ true → (has (take i xs) z ≡ true) ⊎ (z ≡ get_or xs i d)
has_take xs i d z h k = take_suc xs i d z h (subst (λ n. has (take n xs) z ≡ true) (sym (plus_one i)) k)

wider_suc : (xs : List ℕ) (i z : ℕ) → has (take i xs) z ≡ true → has (take (suc i) xs) z ≡ true
wider_suc [] zero z m = absurd cc
wider_suc [] (suc i) z m = absurd cc
wider_suc (x ∷ xs) zero z m = absurd cc
wider_suc (x ∷ xs) (suc i) z m = ⊎_elim
    (λ p. or_left (nat_eq z x) (has (take (suc i) xs) z) p)
    (λ p. or_right (nat_eq z x) (has (take (suc i) xs) z) (wider_suc xs i z p))
    (or_cases (nat_eq z x) (has (take i xs) z) m)

pub has_wider : (xs : List ℕ) (i z : ℕ) → has (take i xs) z ≡ true → has (take (i + 1) xs) z ≡ true
has_wider xs i z m = subst (λ n. has (take n xs) z ≡ true) (plus_one i) (wider_suc xs i z m)

newest_suc : (xs : List ℕ) (i d : ℕ) → i < length xs → has (take (suc i) xs) (get_or xs i d) ≡ true
newest_suc [] i d h = absurd (omega arith)
newest_suc (x ∷ xs) zero d h = or_left (nat_eq x x) false (eq-eqb x x refl)
newest_suc (x ∷ xs) (suc i) d h =
    or_right (nat_eq (get_or xs i d) x) (has (take (suc i) xs) (get_or xs i d)) (newest_suc xs i d (omega arith))

pub has_newest : (xs : List ℕ) (i d : ℕ) → i < length xs → has (take (i + 1) xs) (get_or xs i d) ≡ true
has_newest xs i d h = subst (λ n. has (take n xs) (get_or xs i d) ≡ true) (plus_one i) (newest_suc xs i d h)
