-- How the code's steps read a row.
use Rattle.std.proofs.Common.{◌≡◌, Bool, ◌&&◌, List, [], ◌∷◌, refl}
use Rattle.text_grammar.specs.declared.item.Item.{Item}
use Rattle.text_grammar.specs.Part.{starts}

-- two tests of the next item
pub both_start : (f g : Item → Bool) (ts : List Item) → (starts f ts && starts g ts) ≡ starts (λ x. f x && g x) ts
both_start f g [] = refl
both_start f g (x ∷ rest) = refl
