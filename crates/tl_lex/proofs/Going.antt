-- The items of a text, piece by piece.
use Rattle.std.proofs.Common.{◌≡◌, ℕ, zero, suc, ◌+◌, ◌-◌, ◌≤◌, List, [], ◌∷◌, ◌++◌, length, take, drop, Option, Some, None, refl, sym, ap, ◌∙◌, append_assoc, append-nil, arith}
use Rattle.tb_base.specs.declared.place.Place.{Place}
use Rattle.text_grammar.specs.declared.item.Item.{Item}
use Rattle.text_grammar.specs.declared.item.Token.{Token}
use Rattle.text_grammar.specs.declared.lex.Piece.{Piece}
use Rattle.text_grammar.specs.Lex.{text_start}
use Rattle.tl_lex.specs.Pieces.{piece}
use Rattle.tl_lex.specs.Lex.{place_after, place_behind, placed, items_from, items_of}

-- ---- how many there are

placed_count : (t : Option Token) (p : Place) (more : List Item) → length (placed t p more) ≤ 1 + length more
placed_count None p more = omega arith
placed_count (Some t) p more = omega arith

from_count : (n : ℕ) (p : Place) (z : List ℕ) → length (items_from n p z) ≤ length z
unfolding items_from
from_count n p [] = omega arith
from_count (suc n) p (b ∷ z) = omega (arith, from_count n (place_after p b) z)
from_count zero p (b ∷ z) =
    let c = piece (b ∷ z) in
    let q : Place = place_after p b in
    omega (arith, placed_count c.token p (items_from (c.len - 1) q z), from_count (c.len - 1) q z)

-- a text has at most as many items as bytes
pub items_count : (text : List ℕ) → length (items_of text) ≤ length text
unfolding items_of
items_count text = from_count 0 text_start text

-- ---- a turn of the lexer's loop

-- the bytes of a piece are gone over
left_is : (n : ℕ) (p : Place) (z : List ℕ) → n ≤ length z → items_from n p z ≡ items_from 0 (place_behind p (take n z)) (drop n z)
unfolding items_from
left_is zero p z h = refl
left_is (suc n) p [] h = absurd (omega (arith, h))
left_is (suc n) p (b ∷ rest) h = left_is n (place_after p b) rest (omega (arith, h))

-- the piece at the head, and the items after it
first_and_rest : (p : Place) (z : List ℕ) (c : Piece) → c ≡ piece z → 1 ≤ c.len → c.len ≤ length z → items_from 0 p z ≡ placed c.token p (items_from 0 (place_behind p (take c.len z)) (drop c.len z))
unfolding items_from
first_and_rest p [] c is low high = absurd (omega (arith, low, high))
first_and_rest p (b ∷ rest) c is low high = go c.len refl
  where
    go : (n : ℕ) → c.len ≡ n → items_from 0 p (b ∷ rest) ≡ placed c.token p (items_from 0 (place_behind p (take c.len (b ∷ rest))) (drop c.len (b ∷ rest)))
    go zero e = absurd (omega (arith, low, e))
    go (suc n) e =
        let m : c.len - 1 ≡ n = omega (arith, e) in
        let left = left_is n (place_after p b) rest (omega (arith, high, e)) in
        rw (← is, m, left, e) refl

-- what is put behind the items found, with the items after it
placed_later : (found : List Item) (t : Option Token) (p : Place) (more : List Item) → (found ++ placed t p []) ++ more ≡ found ++ placed t p more
placed_later found None p more = ap (λ (z : List Item). z ++ more) (append-nil found)
placed_later found (Some t) p more = append_assoc found _ more

pub piece_goes : (found after total : List Item) (p q : Place) (z : List ℕ) (c : Piece) → c ≡ piece z → 1 ≤ c.len → c.len ≤ length z → after ≡ found ++ placed c.token p [] → q ≡ place_behind p (take c.len z)
    → found ++ items_from 0 p z ≡ total → after ++ items_from 0 q (drop c.len z) ≡ total
piece_goes found after total p q z c is low high grown behind so_far =
    rw (grown, behind) (placed_later found c.token p _ ∙ ap (λ (more : List Item). found ++ more) (sym (first_and_rest p z c is low high)) ∙ so_far)

pub none_left : (found total : List Item) (p : Place) (z : List ℕ) → length z ≡ 0 → found ++ items_from 0 p z ≡ total → found ≡ total
unfolding items_from
none_left found total p [] h so_far = sym (append-nil found) ∙ so_far
none_left found total p (b ∷ z) h so_far = absurd (omega (arith, h))
