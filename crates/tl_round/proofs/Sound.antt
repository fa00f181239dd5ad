-- The items of a text can be printed: its words are words of the language, its numbers are below 2^128.
use Rattle.std.proofs.Common.{◌≡◌, ℕ, zero, suc, ◌+◌, ◌-◌, ◌<◌, ◌^◌, Bool, true, false, cond, List, [], ◌∷◌, ◌++◌, take, refl, arith}
use Rattle.std.specs.Prelude.{nat_lt, if◌then◌else◌, Option, Some, None}
use Rattle.std.specs.List.{prefix_len, list_all}
use Rattle.std.proofs.lemmas.Bool.{and_from}
use Rattle.std.proofs.lemmas.Bool.Decides.{nat_tests}
use Rattle.std.specs.Char.{is_ascii_digit}
use Rattle.tb_base.specs.declared.place.Place.{Place}
use Rattle.text_grammar.specs.Lex.{begins_word, is_in, run, number_token, text_start}
use Rattle.text_grammar.specs.declared.lex.Class.TheVariants as run_of
use Rattle.text_grammar.specs.declared.lex.Piece.{Piece}
use Rattle.text_grammar.specs.declared.item.Item.{Item}
use Rattle.text_grammar.specs.declared.item.Symbol.{Symbol}
use Rattle.text_grammar.specs.declared.item.Token.{Token}
use Rattle.text_grammar.specs.declared.item.Token.TheVariants as token
use Rattle.tl_lex.specs.Pieces.{is_blank, begins_comment, piece, doubles, singles, spelled, or_else, symbol}
use Rattle.tl_lex.specs.Lex.{place_after, placed, items_from, items_of}
use Rattle.tl_round.proofs.Tokens.{is_word_text}

-- a token as texts hold it
abbrev pub SoundToken : Token → Type 0
SoundToken (token.Word w) = is_word_text w ≡ true
SoundToken (token.Number n) = n < 2 ^ 128
SoundToken _ = Unit {0}

abbrev pub Sound : List Item → Type 0
Sound [] = Unit {0}
Sound (x ∷ rest) = SoundToken x.token × Sound rest

pub sound_left : (xs ys : List Item) → Sound (xs ++ ys) → Sound xs
sound_left [] ys h = tt
sound_left (x ∷ xs) ys h = (h.0, sound_left xs ys h.1)

pub sound_right : (xs ys : List Item) → Sound (xs ++ ys) → Sound ys
sound_right [] ys h = h
sound_right (x ∷ xs) ys h = sound_right xs ys h.1

-- ---- pieces

abbrev SoundOption : Option Token → Type 0
SoundOption None = Unit {0}
SoundOption (Some t) = SoundToken t

record Fits (c : Piece) : Type 0 where
  sound : SoundOption c.token

pick : {c d : Piece} (x : Bool) → (x ≡ true → Fits c) → Fits d → Fits (if x then c else d)
pick true f g = f refl
pick false f g = g

run_passes : (p : ℕ → Bool) (bytes : List ℕ) → list_all p (take (prefix_len p bytes) bytes) ≡ true
run_passes p [] = refl
run_passes p (b ∷ rest) = go (p b) refl (run_passes p rest)
  where
    go : (x : Bool) → p b ≡ x → list_all p (take (prefix_len p rest) rest) ≡ true
        → list_all p (take (cond x (1 + prefix_len p rest) 0) (b ∷ rest)) ≡ true
    go true e later = let one : 1 + prefix_len p rest ≡ suc (prefix_len p rest) = omega arith in
        rw one (and_from (p b) (list_all p (take (prefix_len p rest) rest)) e later)
    go false e later = refl

is_inside : (b : ℕ) → begins_word b ≡ true → is_in run_of.Word b ≡ true
is_inside b h = grind (arith, nat_tests)

word_sound : (b : ℕ) (rest : List ℕ) → begins_word b ≡ true → is_word_text (take (run run_of.Word (b ∷ rest)) (b ∷ rest)) ≡ true
word_sound b rest h =
    let inside = is_inside b h in
    let one : 1 + run run_of.Word rest ≡ suc (run run_of.Word rest) = omega arith in
    rw (inside, one) (and_from (begins_word b) (list_all (is_in run_of.Word) (take (run run_of.Word rest) rest)) h
    (run_passes (is_in run_of.Word) rest))

number_sound : (n : ℕ) → SoundToken (number_token n)
number_sound n = go (nat_lt n (2 ^ 128)) refl
  where
    go : (x : Bool) → nat_lt n (2 ^ 128) ≡ x → SoundToken (if x then token.Number n else token.TooWide)
    go true e = grind (arith, nat_tests)
    go false e = tt

or_else_sound : (found : Option Symbol) (n : ℕ) (other : Piece) → Fits other → Fits (or_else found n other)
or_else_sound (Some x) n other h = record { sound = tt }
or_else_sound None n other h = h

symbol_sound : (text : List ℕ) → Fits (symbol text)
symbol_sound text =
    or_else_sound (spelled doubles (take 2 text)) 2
    (or_else (spelled singles (take 1 text)) 1 (record { token = Some token.Other; len = 1 }))
    (or_else_sound (spelled singles (take 1 text)) 1 (record { token = Some token.Other; len = 1 }) (record { sound = tt }))

piece_sound : (b : ℕ) (rest : List ℕ) → Fits (piece (b ∷ rest))
unfolding piece
piece_sound b rest =
    pick (is_blank b) (λ e. record { sound = tt }) (pick (begins_comment (b ∷ rest)) (λ e. record { sound = tt })
    (pick (begins_word b) (λ e. record { sound = word_sound b rest e }) (pick (is_ascii_digit b) (λ e. record { sound = number_sound _ })
    (symbol_sound (b ∷ rest)))))

placed_sound : (t : Option Token) (p : Place) (more : List Item) → SoundOption t → Sound more → Sound (placed t p more)
placed_sound None p more h k = k
placed_sound (Some t) p more h k = (h, k)

from_sound : (left : ℕ) (p : Place) (text : List ℕ) → Sound (items_from left p text)
unfolding items_from
from_sound left p [] = tt
from_sound (suc left) p (b ∷ rest) = from_sound left (place_after p b) rest
from_sound zero p (b ∷ rest) =
    let c = piece (b ∷ rest) in
    placed_sound c.token p _ (piece_sound b rest).sound (from_sound (c.len - 1) (place_after p b) rest)

pub items_sound : (text : List ℕ) → Sound (items_of text)
unfolding items_of
items_sound text = from_sound 0 text_start text
