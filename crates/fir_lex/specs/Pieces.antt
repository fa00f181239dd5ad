-- How a line falls into pieces: tokens, and what stands between tokens.
use Rattle.std.specs.Prelude.{◌≡◌, ◌≤◌, ℕ, zero, suc, ◌+◌, ◌-◌, ◌^◌, nat_lt, if◌then◌else◌, ◌==◌, ◌&&◌, ◌||◌, not, Bool, true, false, List, [], ◌∷◌, length, take, drop, slice_index, Option, Some, None}
use Rattle.std.specs.Char.{is_ascii_digit, digit_value}
use Rattle.std.specs.List.{prefix_len}
use Rattle.std.specs.Str.{byte}
use Rattle.tb_base.specs.Numeral.{has_base, base_of, numeral_value}
use Rattle.text_grammar.specs.declared.item.Symbol.{Symbol}
use Rattle.text_grammar.specs.declared.item.Symbol.TheVariants as s
use Rattle.text_grammar.specs.declared.item.Token.{Token}
use Rattle.text_grammar.specs.declared.item.Token.TheVariants as token
use Rattle.text_grammar.specs.declared.fault.Form.TheVariants.{QuotedName}
use Rattle.text_grammar.specs.declared.lex.Class.TheVariants as run_of
use Rattle.text_grammar.specs.Lex.{begins_word, run}
use Rattle.fir_lex.specs.declared.piece.Class.{Class}
use Rattle.fir_lex.specs.declared.piece.Class.TheVariants as class
use Rattle.fir_lex.specs.declared.piece.Cut.{Cut}
use Rattle.fir_lex.specs.declared.piece.Unclosed.{Unclosed}

-- so many bytes of this class
abbrev pub cut_as : Class → ℕ → Cut
cut_as c n = record { class = c; len = n }

abbrev pub is_blank : ℕ → Bool
is_blank b = b == byte " " || b == 9

-- ---- what is closed by a byte that no backslash precedes

-- how many bytes stand in front of the first byte c that another byte than a backslash (92) precedes, or all of them where there
-- is none; before is the byte in front of them
abbrev pub before_closing : ℕ → ℕ → List ℕ → ℕ
before_closing c before [] = 0
before_closing c before (b ∷ rest) = if b == c && not (before == 92) then 0 else 1 + before_closing c b rest

-- a string: from a quote to the one that closes it; a quote that none closes begins nothing
abbrev pub string : List ℕ → Cut
string bytes =
    let behind = drop 1 bytes in
    let n = before_closing (byte "\"") (byte "\"") behind in
    if nat_lt n (length behind) then cut_as class.Text (n + 2) else cut_as class.Stray 1

-- a locator: from `@[` to the `]` that closes it; else the first byte begins nothing
abbrev pub locator : List ℕ → Cut
locator bytes =
    let behind = drop 2 bytes in
    let n = before_closing (byte "]") (byte "[") behind in
    if slice_index bytes 1 == byte "[" && nat_lt n (length behind) then cut_as class.Locator (n + 3) else cut_as class.Stray 1

-- no byte c is left that closes anything, whatever stands before these bytes
abbrev pub IsUnclosed : ℕ → List ℕ → Type 0
IsUnclosed c bytes = length bytes ≤ before_closing c 92 bytes

-- what is known of what is left of a line
abbrev pub Known : Unclosed → List ℕ → Type 0
Known unclosed bytes = (unclosed.string ≡ true → IsUnclosed (byte "\"") bytes) × (unclosed.locator ≡ true → IsUnclosed (byte "]") bytes)

-- ---- numbers

-- how many digits of a base stand at the head
abbrev pub digits_run : ℕ → List ℕ → ℕ
digits_run base bytes = prefix_len (λ b. nat_lt (digit_value b) base) bytes

-- how many digits stand behind `0` and a base's letter; none where the bytes do not begin so
abbrev pub based_digits : List ℕ → ℕ
based_digits bytes = if has_base bytes then digits_run (base_of (slice_index bytes 1)) (drop 2 bytes) else 0

-- how many bytes the number at the head has: `0`, a base's letter and digits, or decimal digits alone
abbrev pub number_len : List ℕ → ℕ
number_len bytes = let n = based_digits bytes in if nat_lt 0 n then n + 2 else digits_run 10 bytes

-- a number below 2^128
abbrev pub below_limit : ℕ → Option ℕ
below_limit n = if nat_lt n (2 ^ 128) then Some n else None

abbrev pub number : List ℕ → Cut
number bytes = cut_as (class.Number (below_limit (numeral_value (take (number_len bytes) bytes)))) (number_len bytes)

-- ---- symbols

-- a symbol of so many bytes
abbrev pub mark : Symbol → ℕ → Cut
mark symbol n = cut_as (class.Mark symbol) n

-- after `<`: `<=`, `<-`, or `<` alone
abbrev pub less : ℕ → Cut
less next = if next == byte "=" then mark s.LessEqual 2 else (if next == byte "-" then mark s.LeftArrow 2 else mark s.Less 1)

-- after `=`: `=>`, or `=` alone
abbrev pub equal : ℕ → Cut
equal next = if next == byte ">" then mark s.Arrow 2 else mark s.Equal 1

-- `{|`, where blanks may stand between the two, or `{` alone
abbrev pub brace : List ℕ → Cut
brace bytes =
    let n = prefix_len is_blank (drop 1 bytes) in
    if slice_index (drop 1 bytes) n == byte "|" then mark s.OpenEnumeration (n + 2) else mark s.OpenBrace 1

-- a byte that begins no longer token
abbrev pub single : ℕ → Class
single b =
    if b == byte ">" then class.Mark s.Greater else (if b == byte "(" then class.Mark s.OpenParen else (if b == byte ")" then class.Mark s.CloseParen
    else (if b == byte "[" then class.Mark s.OpenBracket else (if b == byte "]" then class.Mark s.CloseBracket
    else (if b == byte "}" then class.Mark s.CloseBrace else (if b == byte ":" then class.Mark s.Colon else (if b == byte "," then class.Mark s.Comma
    else (if b == byte "." then class.Mark s.Dot else (if b == byte "-" then class.Mark s.Minus else (if b == byte "%" then class.Mark s.Percent
    else (if b == byte "`" then class.BackQuote else (if b == byte " " then class.Blank else (if b == 9 then class.Tab else class.Stray)))))))))))))

-- one byte long, or two where there is a second
abbrev pub IsShort : ℕ → ℕ → Type 0
IsShort next size = (1 ≤ size) × (size ≤ 2) × (next ≡ 0 → size ≡ 1)

-- ---- pieces

-- what begins with no letter, no digit and nothing that is closed
abbrev pub plain : List ℕ → Cut
plain bytes =
    let b = slice_index bytes 0 in
    if b == byte "<" then less (slice_index bytes 1) else (if b == byte "=" then equal (slice_index bytes 1) else (if b == byte "{" then brace bytes else cut_as (single b) 1))

-- what the bytes begin with, as long as can be; a comment is all that is left
unfoldable pub cut : List ℕ → Cut
cut bytes =
    let b = slice_index bytes 0 in
    if begins_word b then cut_as class.Word (run run_of.Word bytes) else (if is_ascii_digit b then number bytes
    else (if b == byte "\"" then string bytes else (if b == byte "@" then locator bytes
    else (if b == byte ";" then cut_as class.Comment (length bytes) else plain bytes))))

-- a piece of a line, with its bytes
pub record Piece : Type 0 where
  pub cut : Cut
  pub bytes : List ℕ

-- the pieces of bytes, of which so many still belong to the piece before
abbrev pub pieces_behind : ℕ → List ℕ → List Piece
pieces_behind left [] = []
pieces_behind (suc left) (b ∷ rest) = pieces_behind left rest
pieces_behind zero (b ∷ rest) = let c = cut (b ∷ rest) in record { cut = c; bytes = take c.len (b ∷ rest) } ∷ pieces_behind (c.len - 1) rest

abbrev pub pieces : List ℕ → List Piece
pieces bytes = pieces_behind 0 bytes

-- ---- tokens

abbrev pub is_token : Class → Bool
is_token class.Word = true
is_token (class.Number n) = true
is_token class.Text = true
is_token (class.Mark symbol) = true
is_token class.BackQuote = true
is_token _ = false

abbrev pub is_locator : Class → Bool
is_locator class.Locator = true
is_locator _ = false

abbrev pub number_token : Option ℕ → Token
number_token (Some n) = token.Number n
number_token None = token.TooWide

-- what stands between the first byte and the last one
abbrev pub between : List ℕ → List ℕ
between bytes = take (length bytes - 2) (drop 1 bytes)

-- the token of a piece
abbrev pub token_of : Class → List ℕ → Token
token_of class.Word bytes = token.Word bytes
token_of (class.Number n) bytes = number_token n
token_of class.Text bytes = token.Text (between bytes)
token_of (class.Mark symbol) bytes = token.Symbol symbol
token_of class.BackQuote bytes = token.Unsupported QuotedName
token_of _ bytes = token.Other
