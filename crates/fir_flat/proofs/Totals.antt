-- Sums over lists, by recursion.
use Rattle.std.proofs.Common.{ℕ, suc, ◌≡◌, ◌+◌, ◌*◌, ◌∙◌, List, [], ◌∷◌, ◌++◌, length, map, refl, ap, arith, sum, All, length-append}
use Rattle.std.proofs.lemmas.List.Sums.{sum_by-cons}
use Rattle.std.proofs.lemmas.List.FromFn.{length-range_with_len}
use Rattle.std.specs.List.{range_with_len, flat_map}

abbrev pub total : {X : Type 0} → (X → ℕ) → List X → ℕ
total f [] = 0
total f (x ∷ xs) = f x + total f xs

pub sum_total : {X : Type 0} (f : X → ℕ) (xs : List X) → sum (map f xs) ≡ total f xs
sum_total f [] = refl
sum_total f (x ∷ xs) =
    let e : sum (f x ∷ map f xs) ≡ f x + sum (map f xs) = sum_by-cons (λ y. y) (f x) (map f xs) in
    let t : sum (map f xs) ≡ total f xs = sum_total f xs in
    omega (arith, e, t)

pub total-append : {X : Type 0} (f : X → ℕ) (xs ys : List X) → total f (xs ++ ys) ≡ total f xs + total f ys
total-append f [] ys = omega arith
total-append f (x ∷ xs) ys =
    let t : total f (xs ++ ys) ≡ total f xs + total f ys = total-append f xs ys in
    omega (arith, t)

-- a list whose items all count n
pub total-map : {X Y : Type 0} (g : Y → ℕ) (f : X → Y) (n : ℕ) → ((x : X) → g (f x) ≡ n) → (xs : List X) → total g (map f xs) ≡ length xs * n
total-map g f n h [] = omega arith
total-map g f n h (x ∷ xs) =
    let e : g (f x) ≡ n = h x in
    let t : total g (map f xs) ≡ length xs * n = total-map g f n h xs in
    let m : suc (length xs) * n ≡ n + length xs * n = omega arith in
    omega (arith, e, t, m)

pub total-range : {Y : Type 0} (g : Y → ℕ) (f : ℕ → Y) (n : ℕ) → ((k : ℕ) → g (f k) ≡ n) → (a len : ℕ) → total g (map f (range_with_len a len)) ≡ len * n
total-range g f n h a len = total-map g f n h (range_with_len a len) ∙ ap (λ m. m * n) (length-range_with_len a len)

-- lists that all count n, one behind another
pub total-joined : {X Y : Type 0} (g : Y → ℕ) (f : X → List Y) (n : ℕ) → ((x : X) → total g (f x) ≡ n) → (xs : List X) → total g (flat_map f xs) ≡ length xs * n
total-joined g f n h [] = omega arith
total-joined g f n h (x ∷ xs) =
    let e : total g (f x) ≡ n = h x in
    let a : total g (f x ++ flat_map f xs) ≡ total g (f x) + total g (flat_map f xs) = total-append g (f x) (flat_map f xs) in
    let t : total g (flat_map f xs) ≡ length xs * n = total-joined g f n h xs in
    let m : suc (length xs) * n ≡ n + length xs * n = omega arith in
    omega (arith, e, a, t, m)

pub total-ranges : {Y : Type 0} (g : Y → ℕ) (f : ℕ → List Y) (n : ℕ) → ((k : ℕ) → total g (f k) ≡ n) → (a len : ℕ) → total g (flat_map f (range_with_len a len)) ≡ len * n
total-ranges g f n h a len = total-joined g f n h (range_with_len a len) ∙ ap (λ m. m * n) (length-range_with_len a len)

pub total-add : {X : Type 0} (f g h : X → ℕ) → ((x : X) → h x ≡ f x + g x) → (xs : List X) → total h xs ≡ total f xs + total g xs
total-add f g h p [] = refl
total-add f g h p (x ∷ xs) =
    let e : h x ≡ f x + g x = p x in
    let t : total h xs ≡ total f xs + total g xs = total-add f g h p xs in
    omega (arith, e, t)

-- of things that have a property
pub total-same : {X Y : Type 0} (P : Y → Type 0) (of : X → Y) (f : X → ℕ) (g : Y → ℕ) → ((x : X) → P (of x) → f x ≡ g (of x))
    → (xs : List X) → All P (map of xs) → total f xs ≡ total g (map of xs)
total-same P of f g h [] a = refl
total-same P of f g h (x ∷ xs) a =
    let e : f x ≡ g (of x) = h x (a 0 (of x) (omega arith)) in
    let t : total f xs ≡ total g (map of xs) = total-same P of f g h xs (λ k d p. a (suc k) d (omega arith)) in
    omega (arith, e, t)

pub length-total : {X Y : Type 0} (f : X → List Y) (xs : List X) → length (flat_map (λ ys. ys) (map f xs)) ≡ total (λ x. length (f x)) xs
length-total f [] = refl
length-total f (x ∷ xs) =
    let e : length (f x ++ flat_map (λ ys. ys) (map f xs)) ≡ length (f x) + length (flat_map (λ ys. ys) (map f xs))
    = length-append (f x) (flat_map (λ ys. ys) (map f xs)) in
    let t : length (flat_map (λ ys. ys) (map f xs)) ≡ total (λ x. length (f x)) xs = length-total f xs in
    omega (arith, e, t)

pub total-total : {X Y : Type 0} (g : Y → ℕ) (f : X → List Y) (xs : List X) → total g (flat_map (λ ys. ys) (map f xs)) ≡ total (λ x. total g (f x)) xs
total-total g f [] = refl
total-total g f (x ∷ xs) =
    let e : total g (f x ++ flat_map (λ ys. ys) (map f xs)) ≡ total g (f x) + total g (flat_map (λ ys. ys) (map f xs))
    = total-append g (f x) (flat_map (λ ys. ys) (map f xs)) in
    let t : total g (flat_map (λ ys. ys) (map f xs)) ≡ total (λ x. total g (f x)) xs = total-total g f xs in
    omega (arith, e, t)
