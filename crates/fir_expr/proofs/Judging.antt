-- How the code reads an item that its position judges.
use Rattle.std.proofs.Common.{◌≡◌, List, [], ◌∷◌, length, drop, Some, None, Result, Ok, Err, refl, sym, ap}
use Rattle.std.specs.Prelude.{slice_get, ◌||◌, Bool}
use Rattle.text_grammar.specs.declared.item.Item.{Item}
use Rattle.text_grammar.specs.declared.item.Token.{Token}
use Rattle.text_grammar.specs.declared.fault.Kind.{Kind}
use Rattle.text_grammar.specs.Part.{kind_at, one_by, starts}
use Rattle.fir_ast.specs.Limits.{kind_in, judged}

module _ {A : Type 0} (judge : Token → Result A Kind) where
  pub judged_taken : (ts : List Item) (x : Item) (a : A) → Some x ≡ slice_get ts 0 → Ok a ≡ judge x.token → (judged judge).reads ts ≡ Ok (a, drop 1 ts)
  unfolding judged one_by
  judged_taken [] x a h e = absurd cc
  judged_taken (y ∷ rest) x a h e = let same : x ≡ y = cc in rw (← same, ← e) refl

  pub judged_refused : (ts : List Item) (x : Item) (k : Kind) → Some x ≡ slice_get ts 0 → Err k ≡ judge x.token → (judged judge).reads ts ≡ Err (k, length ts)
  unfolding judged one_by
  judged_refused [] x k h e = absurd cc
  judged_refused (y ∷ rest) x k h e = let same : x ≡ y = cc in rw (← same, ← e) (ap (λ (z : Result A Kind). Err (kind_in z, length (x ∷ rest))) (sym e))

  pub judged_none : (ts : List Item) → None ≡ slice_get ts 0 → (judged judge).reads ts ≡ Err (kind_at ts, length ts)
  unfolding judged one_by
  judged_none [] h = refl
  judged_none (y ∷ rest) h = absurd cc

pub either_begins : (f g : Item → Bool) (ts : List Item) → (starts f ts || starts g ts) ≡ starts (λ x. f x || g x) ts
either_begins f g [] = refl
either_begins f g (x ∷ rest) = refl
