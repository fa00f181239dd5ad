-- How a test text falls into pieces: tokens, and what stands between tokens.
use Rattle.std.specs.Prelude.{ℕ, ◌+◌, nat_lt, ◌==◌, ◌&&◌, ◌||◌, Bool, if◌then◌else◌, List, [], ◌∷◌, take, drop, slice_index, Option, Some, None, codes}
use Rattle.std.specs.Char.{is_ascii_digit, digit_value}
use Rattle.std.specs.List.{prefix_len, position_or_len}
use Rattle.std.specs.Str.{byte, bytes_eq}
use Rattle.tb_base.specs.Numeral.{has_base, base_of, numeral_value}
use Rattle.text_grammar.specs.declared.item.Token.TheVariants as token
use Rattle.text_grammar.specs.declared.item.Symbol.{Symbol}
use Rattle.text_grammar.specs.declared.item.Symbol.TheVariants as s
use Rattle.text_grammar.specs.declared.lex.Piece.{Piece}
use Rattle.text_grammar.specs.Lex.{begins_word, word, number_token}

-- so many bytes that are no token
abbrev pub space : ℕ → Piece
space n = record { token = None; len = n }

-- ---- between tokens

abbrev pub is_feed : ℕ → Bool
is_feed b = b == 10

-- white space: space, tab, line feed, carriage return
abbrev pub is_blank : ℕ → Bool
is_blank b = b == byte " " || b == 9 || is_feed b || b == 13

abbrev pub begins_comment : List ℕ → Bool
begins_comment text = slice_index text 0 == byte "/" && slice_index text 1 == byte "/"

-- a comment: `//` and all that stands before the next line feed
abbrev pub comment : List ℕ → Piece
comment text = space (2 + position_or_len is_feed (drop 2 text))

-- ---- numbers

-- how many digits of a base stand at the head
abbrev pub digits_run : ℕ → List ℕ → ℕ
digits_run base text = prefix_len (λ b. nat_lt (digit_value b) base) text

-- how many digits stand behind `0` and a base's letter; none where the text does not begin so
abbrev pub based_digits : List ℕ → ℕ
based_digits text = if has_base text then digits_run (base_of (slice_index text 1)) (drop 2 text) else 0

-- how many bytes the number at the head has: `0`, a base's letter and digits, or decimal digits alone
abbrev pub number_len : List ℕ → ℕ
number_len text = let n = based_digits text in if nat_lt 0 n then n + 2 else digits_run 10 text

abbrev pub number : List ℕ → Piece
number text = record { token = Some (number_token (numeral_value (take (number_len text) text))); len = number_len text }

-- ---- symbols

-- the symbols of two bytes
abbrev pub doubles : List (List ℕ × Symbol)
doubles = (codes "==", s.EqualEqual) ∷ (codes "!=", s.NotEqual) ∷ (codes "<=", s.LessEqual) ∷ (codes ">=", s.GreaterEqual) ∷ (codes "<<", s.ShiftLeft) ∷ (codes ">>", s.ShiftRight) ∷ []

-- the symbols of one byte
abbrev pub singles : List (List ℕ × Symbol)
singles =
    (codes "<", s.Less) ∷ (codes ">", s.Greater) ∷ (codes "=", s.Equal) ∷ (codes "+", s.Plus) ∷ (codes "-", s.Minus) ∷ (codes "*", s.Star) ∷ (codes "&", s.And) ∷ (codes "|", s.Or) ∷ (codes "^", s.Xor)
    ∷ (codes "(", s.OpenParen) ∷ (codes ")", s.CloseParen) ∷ (codes "{", s.OpenBrace) ∷ (codes "}", s.CloseBrace) ∷ (codes "[", s.OpenBracket) ∷ (codes "]", s.CloseBracket)
    ∷ (codes ".", s.Dot) ∷ (codes ",", s.Comma) ∷ (codes ";", s.Semicolon) ∷ []

-- the symbol that a table spells so
abbrev pub spelled : List (List ℕ × Symbol) → List ℕ → Option Symbol
spelled [] text = None
spelled (row ∷ more) text = if bytes_eq row.0 text then Some row.1 else spelled more text

abbrev pub or_else : Option Symbol → ℕ → Piece → Piece
or_else (Some found) n other = record { token = Some (token.Symbol found); len = n }
or_else None n other = other

-- the longest symbol at the head, or a byte that begins no token
abbrev pub symbol : List ℕ → Piece
symbol text = or_else (spelled doubles (take 2 text)) 2 (or_else (spelled singles (take 1 text)) 1 (record { token = Some token.Other; len = 1 }))

-- ---- pieces

-- what begins at the head of a text, as long as can be
unfoldable pub piece : List ℕ → Piece
piece text =
    let b = slice_index text 0 in
    if is_blank b then space 1 else (if begins_comment text then comment text
    else (if begins_word b then word text else (if is_ascii_digit b then number text else symbol text)))
