-- Children by their paths.
use Rattle.std.proofs.Common.{◌≡◌, ℕ, zero, suc, ◌+◌, ◌<◌, List, [], ◌∷◌, ◌++◌, length, length-append, Bool, true, bytes_eq, refl, sym, ap, ◌∙◌, arith}
use Rattle.std.specs.Bool.{Decides}
use Rattle.std.proofs.lemmas.Slice.Eq.{bytes_eq-Decides}

not_one : (x y : ℕ) (ys : List ℕ) → [] ≡ ys ++ y ∷ [] → ⊥
not_one x y [] e = cc
not_one x y (z ∷ zs) e = cc

-- lists with one more number
pub same_front : (xs ys : List ℕ) (x y : ℕ) → xs ++ x ∷ [] ≡ ys ++ y ∷ [] → (xs ≡ ys) × (x ≡ y)
same_front [] [] x y e = (refl, cc)
same_front [] (z ∷ zs) x y e = let d : [] ≡ zs ++ y ∷ [] = cc in absurd (not_one x y zs d)
same_front (z ∷ zs) [] x y e = let d : [] ≡ zs ++ x ∷ [] = cc in absurd (not_one y x zs d)
same_front (w ∷ ws) (z ∷ zs) x y e =
    let a : w ≡ z = cc in
    let d : ws ++ x ∷ [] ≡ zs ++ y ∷ [] = cc in
    let r : (ws ≡ zs) × (x ≡ y) = same_front ws zs x y d in
    (ap (λ u. u ∷ ws) a ∙ ap (λ l. z ∷ l) r.0, r.1)

pub child_decided : (own : List ℕ) (forks : ℕ) (child front : List ℕ) (last : ℕ) (r : Bool) → child ≡ front ++ last ∷ [] → last < forks → r ≡ bytes_eq front own
    → Decides r ((j : ℕ) × (j < forks) × (child ≡ own ++ j ∷ []))
child_decided own forks child front last r e lt er = (
  (λ t. (last, lt, e ∙ ap (λ f. f ++ last ∷ []) ((bytes_eq-Decides front own).0 (sym er ∙ t)))),
  (λ p. er ∙ (bytes_eq-Decides front own).1 (same_front front own last p.0 (sym e ∙ p.2)).0),
)
