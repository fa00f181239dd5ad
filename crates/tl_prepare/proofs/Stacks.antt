-- Operands worked out item by item.
use Rattle.std.proofs.Common.{◌≡◌, ℕ, zero, suc, ◌+◌, List, [], ◌∷◌, ◌++◌, take, None, slice_get, slice_index, refl, sym, ap, ◌∙◌}
use Rattle.tl_threads.specs.declared.code.Item.{Item}
use Rattle.tl_threads.specs.Machine.{stacked, worked}

pub absent : (xs : List ℕ) (k : ℕ) → slice_get xs k ≡ None → 0 ≡ slice_index xs k
absent [] k e = refl
absent (x ∷ xs) zero e = absurd (cc)
absent (x ∷ xs) (suc k) e = absent xs k e

pub worked_last : (locals : List ℕ) (xs : List Item) (y : Item) (stack : List ℕ) → worked locals (xs ++ y ∷ []) stack ≡ stacked locals (worked locals xs stack) y
worked_last locals [] y stack = refl
worked_last locals (x ∷ xs) y stack = worked_last locals xs y (stacked locals stack x)

pub worked_on : (locals : List ℕ) (items : List Item) (i : ℕ) (x : Item) (old new : List ℕ) → take (i + 1) items ≡ take i items ++ x ∷ []
    → old ≡ worked locals (take i items) [] → new ≡ stacked locals old x → new ≡ worked locals (take (i + 1) items) []
worked_on locals items i x old new e h n =
    n ∙ ap (λ s. stacked locals s x) h ∙ sym (ap (λ is. worked locals is []) e ∙ worked_last locals (take i items) x [])
