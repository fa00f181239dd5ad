-- Lists made by a loop over numbers, and copies of lists.
use Rattle.std.proofs.Common.{ℕ, ◌≡◌, ◌+◌, ◌∙◌, ◌≤◌, List, [], ◌∷◌, ◌++◌, length, map, take, refl, sym, ap, ap₂, arith}
use Rattle.std.specs.List.{range_with_len, flat_map}
use Rattle.std.proofs.lemmas.List.{append_assoc, append-nil, map-id, take_all}
use Rattle.std.proofs.lemmas.List.FromFn.{map-range_with_len_more}
use Rattle.std.proofs.lemmas.Grind.{flat_map-append}

-- one number more
pub range_more : {X : Type 0} (f : ℕ → X) (xs ys : List X) (n : ℕ) (x : X) → xs ≡ map f (range_with_len 0 n) → x ≡ f n → ys ≡ xs ++ x ∷ []
    → ys ≡ map f (range_with_len 0 (n + 1))
range_more f xs ys n x e p q =
    q ∙ ap₂ (λ zs z. zs ++ z ∷ []) e p ∙ sym (map-range_with_len_more f 0 n n (omega arith))

-- the same behind what is there already
pub range_more_behind : {X : Type 0} (f : ℕ → X) (before xs ys : List X) (n : ℕ) (x : X) → xs ≡ before ++ map f (range_with_len 0 n) → x ≡ f n → ys ≡ xs ++ x ∷ []
    → ys ≡ before ++ map f (range_with_len 0 (n + 1))
range_more_behind f before xs ys n x e p q =
    q ∙ ap₂ (λ zs z. zs ++ z ∷ []) e p ∙ append_assoc before (map f (range_with_len 0 n)) (f n ∷ [])
    ∙ ap (λ zs. before ++ zs) (sym (map-range_with_len_more f 0 n n (omega arith)))

pub map_map : {X Y Z : Type 0} (g : Y → Z) (f : X → Y) (xs : List X) → map g (map f xs) ≡ map (λ x. g (f x)) xs
map_map g f [] = refl
map_map g f (x ∷ xs) = ap (λ ys. g (f x) ∷ ys) (map_map g f xs)

-- the end of a loop over a list
pub mapped_all : {X Y Z : Type 0} (g : Y → Z) (f : X → Y) (xs ys : List X) (n : ℕ) (zs : List Z) → length xs ≤ n → xs ≡ ys → zs ≡ map (λ x. g (f x)) (take n xs)
    → zs ≡ map g (map f ys)
mapped_all g f xs ys n zs h e p =
    p ∙ ap (map (λ x. g (f x))) (take_all n xs h ∙ e) ∙ sym (map_map g f ys)

range_next : (n : ℕ) → range_with_len 0 (n + 1) ≡ range_with_len 0 n ++ n ∷ []
range_next n =
    sym (map-id (range_with_len 0 (n + 1))) ∙ map-range_with_len_more (λ k. k) 0 n n (omega arith)
    ∙ ap (λ xs. xs ++ n ∷ []) (map-id (range_with_len 0 n))

pub joined_more : {X : Type 0} (f : ℕ → List X) (n : ℕ) → flat_map f (range_with_len 0 (n + 1)) ≡ flat_map f (range_with_len 0 n) ++ f n
joined_more f n =
    ap (flat_map f) (range_next n) ∙ flat_map-append f (range_with_len 0 n) (n ∷ [])
    ∙ ap (λ xs. flat_map f (range_with_len 0 n) ++ xs) (append-nil (f n))
