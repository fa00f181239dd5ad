-- The items of a test text: no form stands there that is known and not taken.
use Rattle.std.proofs.Common.{◌≡◌, ℕ, zero, suc, ◌-◌, Bool, true, false, List, [], ◌∷◌, ◌++◌, Option, Some, None, refl, subst}
use Rattle.std.specs.Prelude.{nat_lt, ◌^◌, if◌then◌else◌, take, slice_index}
use Rattle.std.specs.Char.{is_ascii_digit}
use Rattle.tb_base.specs.declared.place.Place.{Place}
use Rattle.text_grammar.specs.declared.item.Item.{Item}
use Rattle.text_grammar.specs.declared.item.Token.{Token}
use Rattle.text_grammar.specs.declared.item.Token.TheVariants as token
use Rattle.text_grammar.specs.declared.item.Symbol.{Symbol}
use Rattle.text_grammar.specs.declared.fault.Kind.TheVariants.{Unsupported, HeadTooDeep}
use Rattle.text_grammar.specs.declared.fault.Form.{Form}
use Rattle.text_grammar.specs.declared.lex.Piece.{Piece}
use Rattle.text_grammar.specs.Lex.{begins_word, word, number_token, text_start}
use Rattle.text_grammar.specs.Part.{kind_of_token, kind_at}
use Rattle.tl_lex.specs.Pieces.{piece, symbol, or_else, spelled, doubles, singles, is_blank, begins_comment, number, comment, space}
use Rattle.tl_lex.specs.Lex.{items_of, items_from, place_after, placed}

token_never : (t : Token) → HeadTooDeep ≡ kind_of_token t → ⊥
token_never (token.Word w) h = absurd cc
token_never (token.Number w) h = absurd cc
token_never (token.Symbol w) h = absurd cc
token_never (token.Text w) h = absurd cc
token_never (token.Unsupported f) h = absurd cc
token_never (token.TooDeep f) h = absurd cc
token_never token.TooWide h = absurd cc
token_never token.Other h = absurd cc

pub never_head_item : (rest : List Item) → HeadTooDeep ≡ kind_at rest → ⊥
never_head_item [] h = absurd cc
never_head_item (x ∷ rest) h = token_never x.token h

-- a token that is no such form
abbrev taken : Token → Bool
taken (token.Unsupported form) = false
taken _ = true

abbrev all_taken : List Item → Type 0
all_taken [] = Unit {0}
all_taken (x ∷ rest) = (taken x.token ≡ true) × all_taken rest

abbrev some_taken : Option Token → Type 0
some_taken None = Unit {0}
some_taken (Some t) = taken t ≡ true

number_taken : (n : ℕ) → taken (number_token n) ≡ true
number_taken n = go (nat_lt n (2 ^ 128))
  where
    go : (c : Bool) → taken (if c then token.Number n else token.TooWide) ≡ true
    go true = refl
    go false = refl

or_else_taken : (o : Option Symbol) (n : ℕ) (p : Piece) → some_taken p.token → some_taken (or_else o n p).token
or_else_taken (Some a) n p h = refl
or_else_taken None n p h = h

symbol_taken : (text : List ℕ) → some_taken (symbol text).token
symbol_taken text = or_else_taken (spelled doubles (take 2 text)) 2 _ (or_else_taken (spelled singles (take 1 text)) 1 (record { token = Some token.Other; len = 1 }) refl)

chosen : (c : Bool) (p q : Piece) → some_taken p.token → some_taken q.token → some_taken (if c then p else q).token
chosen true p q h k = h
chosen false p q h k = k

piece_taken : (text : List ℕ) → some_taken (piece text).token
unfolding piece
piece_taken text =
    let b = slice_index text 0 in
    chosen (is_blank b) (space 1) _ tt (chosen (begins_comment text) (comment text) _ tt (chosen (begins_word b) (word text) _ refl (chosen (is_ascii_digit b) (number text) (symbol text) (number_taken _) (symbol_taken text))))

placed_taken : (o : Option Token) (p : Place) (more : List Item) → some_taken o → all_taken more → all_taken (placed o p more)
placed_taken None p more h k = k
placed_taken (Some t) p more h k = (h, k)

from_taken : (text : List ℕ) (left : ℕ) (p : Place) → all_taken (items_from left p text)
unfolding items_from
from_taken [] zero p = tt
from_taken [] (suc left) p = tt
from_taken (b ∷ rest) (suc left) p = from_taken rest left (place_after p b)
from_taken (b ∷ rest) zero p = placed_taken (piece (b ∷ rest)).token p _ (piece_taken (b ∷ rest)) (from_taken rest ((piece (b ∷ rest)).len - 1) (place_after p b))

items_taken : (text : List ℕ) → all_taken (items_of text)
unfolding items_of
items_taken text = from_taken text 0 text_start

rest_taken : (front rest : List Item) → all_taken (front ++ rest) → all_taken rest
rest_taken [] rest h = h
rest_taken (x ∷ front) rest h = rest_taken front rest h.1

not_taken : (t : Token) (form : Form) → taken t ≡ true → Unsupported form ≡ kind_of_token t → ⊥
not_taken (token.Word w) form h e = absurd cc
not_taken (token.Number w) form h e = absurd cc
not_taken (token.Symbol w) form h e = absurd cc
not_taken (token.Text w) form h e = absurd cc
not_taken (token.Unsupported f) form h e = absurd (let q : false ≡ true = h in cc)
not_taken (token.TooDeep f) form h e = absurd cc
not_taken token.TooWide form h e = absurd cc
not_taken token.Other form h e = absurd cc

none_at : (rest : List Item) (form : Form) → all_taken rest → Unsupported form ≡ kind_at rest → ⊥
none_at [] form h e = absurd cc
none_at (x ∷ rest) form h e = not_taken x.token form h.0 e

pub never_unsupported : (text : List ℕ) (front rest : List Item) (form : Form) → items_of text ≡ front ++ rest → Unsupported form ≡ kind_at rest → ⊥
never_unsupported text front rest form is e = none_at rest form (rest_taken front rest (subst all_taken is (items_taken text))) e
