-- Loops that look for an item.
use Rattle.std.proofs.Common.{ℕ, suc, ◌≡◌, ◌+◌, ◌<◌, ◌≤◌, Bool, true, false, ◌||◌, List, ◌∷◌, length, drop, get_or, sym, ap, ◌∙◌, add-one, drop-cons}
use Rattle.std.specs.List.{list_any}
use Rattle.std.proofs.lemmas.List.{drop_all}

pub next_item : {X : Type 0} (xs : List X) (i : ℕ) (x : X) → i < length xs → x ≡ get_or xs i x → drop i xs ≡ x ∷ drop (i + 1) xs
next_item xs i x h e = drop-cons xs i x h ∙ ap (λ y. y ∷ drop (suc i) xs) (sym e) ∙ ap (λ n. x ∷ drop n xs) (sym (add-one i))

-- an item that passes the test
pub any_found : {X : Type 0} (f : X → Bool) (xs : List X) (i : ℕ) (x : X) (b : Bool) → i < length xs → x ≡ get_or xs i x → b ≡ f x → b ≡ true → list_any f xs ≡ list_any f (drop i xs) → true ≡ list_any f xs
any_found f xs i x b h e t p s = sym (s ∙ ap (list_any f) (next_item xs i x h e) ∙ ap (λ c. c || list_any f (drop (i + 1) xs)) (sym t ∙ p))

-- one that doesn't
pub any_next : {X : Type 0} (f : X → Bool) (xs : List X) (i : ℕ) (x : X) (b : Bool) → i < length xs → x ≡ get_or xs i x → b ≡ f x → b ≡ false → list_any f xs ≡ list_any f (drop i xs) → list_any f xs ≡ list_any f (drop (i + 1) xs)
any_next f xs i x b h e t p s = s ∙ ap (list_any f) (next_item xs i x h e) ∙ ap (λ c. c || list_any f (drop (i + 1) xs)) (sym t ∙ p)

pub any_end : {X : Type 0} (f : X → Bool) (xs : List X) (i : ℕ) → length xs ≤ i → list_any f xs ≡ list_any f (drop i xs) → false ≡ list_any f xs
any_end f xs i h s = sym (s ∙ ap (list_any f) (drop_all i xs h))
