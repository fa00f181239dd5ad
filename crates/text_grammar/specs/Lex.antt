-- What the lexers of both languages share: the bytes of words and numbers, what begins at a byte, and places.
use Rattle.std.specs.Prelude.{ℕ, ◌+◌, ◌^◌, nat_lt, ◌==◌, ◌||◌, Bool, if◌then◌else◌, List, take, Some}
use Rattle.std.specs.Char.{is_ascii_digit, is_ascii_alphabetic, is_ascii_alphanumeric}
use Rattle.std.specs.List.{prefix_len}
use Rattle.std.specs.Str.{byte}
use Rattle.std.specs.Str.Parse.{digits_value}
use Rattle.tb_base.specs.declared.place.Place.{Place}
use Rattle.text_grammar.specs.declared.item.Token.{Token}
use Rattle.text_grammar.specs.declared.item.Token.TheVariants as token
use Rattle.text_grammar.specs.declared.lex.Class.{Class}
use Rattle.text_grammar.specs.declared.lex.Class.TheVariants as class
use Rattle.text_grammar.specs.declared.lex.Piece.{Piece}

-- ---- words

-- a word begins with a letter or `_`
abbrev pub begins_word : ℕ → Bool
begins_word b = is_ascii_alphabetic b || b == byte "_"

-- and goes on with letters, digits, `_` and `$`
abbrev pub is_in : Class → ℕ → Bool
is_in class.Space b = b == byte " "
is_in class.Digit b = is_ascii_digit b
is_in class.Word b = is_ascii_alphanumeric b || b == byte "_" || b == byte "$"

-- how many bytes at the head are in the class
abbrev pub run : Class → List ℕ → ℕ
run c text = prefix_len (is_in c) text

-- the word at the head: all bytes there that a word may have
abbrev pub word : List ℕ → Piece
word text = record { token = Some (token.Word (take (run class.Word text) text)); len = run class.Word text }

-- ---- numbers

-- numbers from 2^128 on have a token of their own
abbrev pub number_token : ℕ → Token
number_token n = if nat_lt n (2 ^ 128) then token.Number n else token.TooWide

-- the decimal number at the head: all digits there
abbrev pub decimal : List ℕ → Piece
decimal text = record { token = Some (number_token (digits_value 10 (take (run class.Digit text) text))); len = run class.Digit text }

-- ---- places

abbrev pub text_start : Place
text_start = record { line = 1; column = 1 }

-- The place after a piece that begins with the byte b and has n bytes. A line feed is a piece of its own and ends its line.
abbrev pub place_past : Place → ℕ → ℕ → Place
place_past p b n = if b == 10 then record { line = p.line + 1; column = 1 } else record { line = p.line; column = p.column + n }
