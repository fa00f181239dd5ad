-- Measures and tests of two lists, one behind the other.
use Rattle.std.proofs.Common.{◌≡◌, ℕ, ◌+◌, max, Bool, true, false, ◌||◌, List, [], ◌∷◌, ◌++◌, map, refl, sym, ap, ◌∙◌, arith}
use Rattle.std.specs.Prelude.{sum}
use Rattle.std.specs.List.{list_any}
use Rattle.std.proofs.lemmas.List.Sums.{sum-map, sum_by-cons}
use Rattle.tl_check.specs.Bounds.{greatest}
use Rattle.tl_check.specs.CoreTests.{some_true}

pub sum_first : {X : Type 0} (f : X → ℕ) (x : X) (more : List X) → sum (map f (x ∷ more)) ≡ f x + sum (map f more)
sum_first f x more = sum-map f (x ∷ more) ∙ sum_by-cons f x more ∙ ap (λ n. f x + n) (sym (sum-map f more))

pub sum_both : {X : Type 0} (f : X → ℕ) (xs ys : List X) → sum (map f (xs ++ ys)) ≡ sum (map f xs) + sum (map f ys)
sum_both f [] ys = omega arith
sum_both f (x ∷ xs) ys =
    let more = sum_both f xs ys in
    let whole : sum (map f (x ∷ (xs ++ ys))) ≡ f x + sum (map f (xs ++ ys)) = sum_first f x (xs ++ ys) in
    let front : sum (map f (x ∷ xs)) ≡ f x + sum (map f xs) = sum_first f x xs in
    omega (arith, more, whole, front)

pub greatest_both : {X : Type 0} (f : X → ℕ) (xs ys : List X) → greatest (map f (xs ++ ys)) ≡ max (greatest (map f xs)) (greatest (map f ys))
greatest_both f [] ys = omega arith
greatest_both f (x ∷ xs) ys = let more = greatest_both f xs ys in omega (arith, more)

pub or_assoc : (a b c : Bool) → ((a || b) || c) ≡ (a || (b || c))
or_assoc true b c = refl
or_assoc false b c = refl

pub any_both : {X : Type 0} (p : X → Bool) (xs ys : List X) → list_any p (xs ++ ys) ≡ (list_any p xs || list_any p ys)
any_both p [] ys = refl
any_both p (x ∷ xs) ys = ap (λ b. p x || b) (any_both p xs ys) ∙ sym (or_assoc (p x) (list_any p xs) (list_any p ys))

pub some_both : {X : Type 0} (f : X → Bool) (xs ys : List X) → some_true (map f (xs ++ ys)) ≡ (some_true (map f xs) || some_true (map f ys))
some_both f [] ys = refl
some_both f (x ∷ xs) ys = ap (λ b. f x || b) (some_both f xs ys) ∙ sym (or_assoc (f x) (some_true (map f xs)) (some_true (map f ys)))

pub map_both : {X Y : Type 0} (f : X → Y) (xs ys : List X) → map f (xs ++ ys) ≡ map f xs ++ map f ys
map_both f [] ys = refl
map_both f (x ∷ xs) ys = ap (λ zs. f x ∷ zs) (map_both f xs ys)

pub append_three : {X : Type 0} (xs ys zs : List X) → (xs ++ ys) ++ zs ≡ xs ++ (ys ++ zs)
append_three [] ys zs = refl
append_three (x ∷ xs) ys zs = ap (λ ws. x ∷ ws) (append_three xs ys zs)

pub either_false : (a b : Bool) → a ≡ false → b ≡ false → (a || b) ≡ false
either_false a b p q = ap (λ c. c || b) p ∙ q
