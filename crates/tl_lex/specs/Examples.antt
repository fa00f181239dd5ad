-- Worked examples: texts, and their items.
use Rattle.std.specs.Prelude.{◌≡◌, ℕ, ◌^◌, ◌-◌, List, [], ◌∷◌, ◌++◌, codes}
use Rattle.text_grammar.specs.declared.item.Item.{Item}
use Rattle.text_grammar.specs.declared.item.Symbol.{Symbol}
use Rattle.text_grammar.specs.declared.item.Symbol.TheVariants as s
use Rattle.text_grammar.specs.declared.item.Token.{Token}
use Rattle.text_grammar.specs.declared.item.Token.TheVariants as token
use Rattle.tl_lex.specs.Lex.{items_of, end_of}

-- an item at a line and a column
abbrev at : ℕ → ℕ → Token → Item
at line column t = record { place = record { line = line; column = column }; token = t }

-- items of the first line
abbrev word : ℕ → List ℕ → Item
word column text = at 1 column (token.Word text)

abbrev number : ℕ → ℕ → Item
number column n = at 1 column (token.Number n)

abbrev mark : ℕ → Symbol → Item
mark column symbol = at 1 column (token.Symbol symbol)

abbrev stray : ℕ → Item
stray column = at 1 column token.Other

pub record Spaces : Type 0 where
  pub nothing_there : items_of [] ≡ []
  -- a tab (9) has one column; a line feed (10) ends a line, and a carriage return (13) ends none
  pub blanks : items_of (9 ∷ codes "a" ++ 13 ∷ 32 ∷ codes "b" ++ 13 ∷ 10 ∷ codes " c") ≡ word 2 (codes "a") ∷ word 5 (codes "b") ∷ at 2 2 (token.Word (codes "c")) ∷ []
  -- a comment ends with its line
  pub comment : items_of (codes "a// b" ++ 10 ∷ codes "//" ++ 10 ∷ codes "c") ≡ word 1 (codes "a") ∷ at 3 1 (token.Word (codes "c")) ∷ []
  pub comment_with_return : items_of (codes "// b" ++ 13 ∷ codes "c") ≡ []
  pub comment_at_end : items_of (codes "; // b") ≡ mark 1 s.Semicolon ∷ []
  pub comment_in_comment : items_of (codes "/// a") ≡ []
  -- bytes above 127 are taken in comments alone
  pub high_bytes : items_of (200 ∷ codes "a" ++ 195 ∷ codes "//" ++ 200 ∷ []) ≡ stray 1 ∷ word 2 (codes "a") ∷ stray 3 ∷ []
  -- one slash begins no comment
  pub slash : items_of (codes "a / /b") ≡ word 1 (codes "a") ∷ stray 3 ∷ stray 5 ∷ word 6 (codes "b") ∷ []

pub record Tokens : Type 0 where
  -- the longest token is taken
  pub words : items_of (codes "_a$1 $a") ≡ word 1 (codes "_a$1") ∷ stray 6 ∷ word 7 (codes "a") ∷ []
  pub decimals : items_of (codes "007 12abc") ≡ number 1 7 ∷ number 5 12 ∷ word 7 (codes "abc") ∷ []
  pub another_base : items_of (codes "0b101 0o17 0d19 0xfF 0hAb") ≡ number 1 5 ∷ number 7 15 ∷ number 12 19 ∷ number 17 255 ∷ number 22 171 ∷ []
  pub digit_beyond : items_of (codes "0b12 0o8 0xfg") ≡ number 1 1 ∷ number 4 2 ∷ number 6 0 ∷ word 7 (codes "o8") ∷ number 10 15 ∷ word 13 (codes "g") ∷ []
  pub no_digit : items_of (codes "0b 0X1 0") ≡ number 1 0 ∷ word 2 (codes "b") ∷ number 4 0 ∷ word 5 (codes "X1") ∷ number 8 0 ∷ []
  pub widest : items_of (codes "0xffffffffffffffffffffffffffffffff") ≡ number 1 (2 ^ 128 - 1) ∷ []
  pub too_wide : items_of (codes "0x100000000000000000000000000000000") ≡ at 1 1 token.TooWide ∷ []
  pub doubles : items_of (codes "==!=<=>=<<>>") ≡ mark 1 s.EqualEqual ∷ mark 3 s.NotEqual ∷ mark 5 s.LessEqual ∷ mark 7 s.GreaterEqual ∷ mark 9 s.ShiftLeft ∷ mark 11 s.ShiftRight ∷ []
  pub operators : items_of (codes "< > = + - * & | ^") ≡ mark 1 s.Less ∷ mark 3 s.Greater ∷ mark 5 s.Equal ∷ mark 7 s.Plus ∷ mark 9 s.Minus ∷ mark 11 s.Star ∷ mark 13 s.And ∷ mark 15 s.Or ∷ mark 17 s.Xor ∷ []
  pub brackets : items_of (codes "(){}[].,;") ≡ mark 1 s.OpenParen ∷ mark 2 s.CloseParen ∷ mark 3 s.OpenBrace ∷ mark 4 s.CloseBrace ∷ mark 5 s.OpenBracket ∷ mark 6 s.CloseBracket ∷ mark 7 s.Dot ∷ mark 8 s.Comma ∷ mark 9 s.Semicolon ∷ []
  pub longest_first : items_of (codes "<<=<>===!") ≡ mark 1 s.ShiftLeft ∷ mark 3 s.Equal ∷ mark 4 s.Less ∷ mark 5 s.GreaterEqual ∷ mark 7 s.EqualEqual ∷ stray 9 ∷ []
  pub strays : items_of (codes "\"a\" :%") ≡ stray 1 ∷ word 2 (codes "a") ∷ stray 3 ∷ stray 5 ∷ stray 6 ∷ []

pub record Ends : Type 0 where
  pub empty : end_of [] ≡ record { line = 1; column = 1 }
  pub no_feed : end_of (codes "ab") ≡ record { line = 1; column = 3 }
  pub feed : end_of (codes "ab" ++ 10 ∷ codes "c" ++ 13 ∷ 10 ∷ []) ≡ record { line = 3; column = 1 }
  pub behind_feed : end_of (codes "ab" ++ 10 ∷ codes "c") ≡ record { line = 2; column = 2 }
