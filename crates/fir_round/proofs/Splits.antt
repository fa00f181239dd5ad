-- Items that can be printed, one list behind another.
use Rattle.std.proofs.Common.{◌≡◌, ℕ, List, [], ◌∷◌, ◌++◌, refl}
use Rattle.text_grammar.specs.declared.item.Item.{Item}
use Rattle.fir_round.specs.Sound.{Sound, open_after, token_after}

pub sound_left : (depth : ℕ) (xs ys : List Item) → Sound depth (xs ++ ys) → Sound depth xs
sound_left depth [] ys h = tt
sound_left depth (x ∷ xs) ys h = (h.0, h.1, sound_left (token_after depth x.token) xs ys h.2)

pub sound_right : (depth : ℕ) (xs ys : List Item) → Sound depth (xs ++ ys) → Sound (open_after depth xs) ys
sound_right depth [] ys h = h
sound_right depth (x ∷ xs) ys h = sound_right (token_after depth x.token) xs ys h.2

pub open_after_both : (depth : ℕ) (xs ys : List Item) → open_after depth (xs ++ ys) ≡ open_after (open_after depth xs) ys
open_after_both depth [] ys = refl
open_after_both depth (x ∷ xs) ys = open_after_both (token_after depth x.token) xs ys
