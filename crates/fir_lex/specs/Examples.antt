-- Worked examples: texts, and their items.
use Rattle.std.specs.Prelude.{◌≡◌, ℕ, ◌^◌, ◌-◌, List, [], ◌∷◌, ◌++◌, drop, codes}
use Rattle.text_grammar.specs.declared.item.Item.{Item}
use Rattle.text_grammar.specs.declared.item.Symbol.{Symbol}
use Rattle.text_grammar.specs.declared.item.Symbol.TheVariants as s
use Rattle.text_grammar.specs.declared.item.Token.{Token}
use Rattle.text_grammar.specs.declared.item.Token.TheVariants as token
use Rattle.text_grammar.specs.declared.fault.Form.{Form}
use Rattle.text_grammar.specs.declared.fault.Form.TheVariants as form
use Rattle.fir_lex.specs.Lex.{items_of, end_of}

-- an item at a line and a column
abbrev at : ℕ → ℕ → Token → Item
at line column t = record { place = record { line = line; column = column }; token = t }

-- items of the first line
abbrev word : ℕ → List ℕ → Item
word column text = at 1 column (token.Word text)

abbrev string : ℕ → List ℕ → Item
string column text = at 1 column (token.Text text)

abbrev number : ℕ → ℕ → Item
number column n = at 1 column (token.Number n)

abbrev mark : ℕ → Symbol → Item
mark column symbol = at 1 column (token.Symbol symbol)

abbrev stray : ℕ → Item
stray column = at 1 column token.Other

abbrev unsupported : ℕ → Form → Item
unsupported column f = at 1 column (token.Unsupported f)

abbrev end : ℕ → Item
end column = mark column s.LineEnd

pub record Lines : Type 0 where
  pub nothing_there : items_of [] ≡ []
  -- a line ends right behind its last token; a line without a token has no items
  pub line_ends : items_of (codes "  skip " ++ 10 ∷ 10 ∷ codes " a") ≡ word 3 (codes "skip") ∷ end 7 ∷ at 3 2 (token.Word (codes "a")) ∷ at 3 3 (token.Symbol s.LineEnd) ∷ []
  -- a carriage return (13) is dropped right before a line feed (10), and is stray elsewhere
  pub returns : items_of (codes "a" ++ 13 ∷ 10 ∷ codes "b" ++ 13 ∷ []) ≡ word 1 (codes "a") ∷ end 2 ∷ at 2 1 (token.Word (codes "b")) ∷ at 2 2 (token.Symbol s.LineEnd) ∷ at 2 2 token.Other ∷ []
  pub one_return : items_of (codes "a" ++ 13 ∷ 13 ∷ 10 ∷ []) ≡ word 1 (codes "a") ∷ end 2 ∷ stray 2 ∷ []
  -- a tab (9) is faulty in front of the first token, free behind it, and nothing on a line without a token
  pub tab_in_front : items_of (9 ∷ codes "a" ++ 9 ∷ codes "b") ≡ stray 1 ∷ word 2 (codes "a") ∷ word 4 (codes "b") ∷ end 5 ∷ []
  pub tab_alone : items_of (9 ∷ codes " ; a") ≡ []
  pub tab_and_stray : items_of (9 ∷ codes "$") ≡ stray 2 ∷ []
  -- the end of an unfinished line stands before a stray byte behind it
  pub stray_behind : items_of (codes "wire x $") ≡ word 1 (codes "wire") ∷ word 6 (codes "x") ∷ end 7 ∷ stray 8 ∷ []
  pub stray_between : items_of (codes "a $ b") ≡ word 1 (codes "a") ∷ stray 3 ∷ word 5 (codes "b") ∷ end 6 ∷ []
  -- bytes above 127 are taken in comments, locators and strings alone
  pub high_bytes : items_of (200 ∷ codes "\"" ++ 200 ∷ codes "\"@[" ++ 200 ∷ codes "];" ++ 200 ∷ []) ≡ stray 1 ∷ string 2 (200 ∷ []) ∷ end 5 ∷ []

pub record Tokens : Type 0 where
  pub comment : items_of (codes "a ; b \" @[") ≡ word 1 (codes "a") ∷ end 2 ∷ []
  pub semicolon_in_string : items_of (codes "\"a;b\"") ≡ string 1 (codes "a;b") ∷ end 6 ∷ []
  -- a locator means nothing, and must be the last item of its line
  pub a_locator : items_of (codes "a @[M.scala 7:9] ; b") ≡ word 1 (codes "a") ∷ end 2 ∷ []
  pub behind_locator : items_of (codes "a @[b] c @[d]") ≡ word 1 (codes "a") ∷ end 2 ∷ stray 8 ∷ stray 10 ∷ []
  pub bracket_in_locator : items_of (codes "a @[\\]] b") ≡ word 1 (codes "a") ∷ end 2 ∷ stray 9 ∷ []
  pub open_locator : items_of (codes "@[a") ≡ stray 1 ∷ mark 2 s.OpenBracket ∷ word 3 (codes "a") ∷ end 4 ∷ []
  -- a string goes to the next quote that no backslash precedes
  pub quote_in_string : items_of (codes "\"a\\\"b\" c") ≡ string 1 (codes "a\\\"b") ∷ word 8 (codes "c") ∷ end 9 ∷ []
  pub empty_string : items_of (codes "\"\"") ≡ string 1 [] ∷ end 3 ∷ []
  pub open_string : items_of (codes "\"a") ≡ stray 1 ∷ word 2 (codes "a") ∷ end 3 ∷ []
  -- the longest token is taken
  pub words : items_of (codes "_a$1 $a") ≡ word 1 (codes "_a$1") ∷ stray 6 ∷ word 7 (codes "a") ∷ end 8 ∷ []
  pub another_base : items_of (codes "0hFf 0b12 0o17 0d9 007") ≡ number 1 255 ∷ number 6 1 ∷ number 9 2 ∷ number 11 15 ∷ number 16 9 ∷ number 20 7 ∷ end 23 ∷ []
  pub no_digit : items_of (codes "0b2 0h 0B1") ≡ number 1 0 ∷ word 2 (codes "b2") ∷ number 5 0 ∷ word 6 (codes "h") ∷ number 8 0 ∷ word 9 (codes "B1") ∷ end 11 ∷ []
  pub widest : items_of (codes "340282366920938463463374607431768211455") ≡ number 1 (2 ^ 128 - 1) ∷ end 40 ∷ []
  pub too_wide : items_of (codes "340282366920938463463374607431768211456") ≡ at 1 1 token.TooWide ∷ end 40 ∷ []
  pub symbols : items_of (codes "<=>=<-<-->") ≡ mark 1 s.LessEqual ∷ mark 3 s.Greater ∷ mark 4 s.Equal ∷ mark 5 s.LeftArrow ∷ mark 7 s.LeftArrow ∷ mark 9 s.Minus ∷ mark 10 s.Greater ∷ end 11 ∷ []
  pub arrow : items_of (codes "=>%:,.") ≡ mark 1 s.Arrow ∷ mark 3 s.Percent ∷ mark 4 s.Colon ∷ mark 5 s.Comma ∷ mark 6 s.Dot ∷ end 7 ∷ []
  pub enumeration : items_of (codes "{ | {|{ }|") ≡ mark 1 s.OpenEnumeration ∷ mark 5 s.OpenEnumeration ∷ mark 7 s.OpenBrace ∷ mark 9 s.CloseBrace ∷ end 10 ∷ stray 10 ∷ []
  pub back_quote : items_of (codes "`a") ≡ unsupported 1 form.QuotedName ∷ word 2 (codes "a") ∷ end 3 ∷ []

-- 64 opening brackets
abbrev brackets : List ℕ
brackets = codes "(((((((((((((((((((((((((((((((((((((((((((((((((((((((((((((((("

pub record Marks : Type 0 where
  pub memory : items_of (codes "mem x :") ≡ unsupported 1 form.Memory ∷ word 5 (codes "x") ∷ mark 7 s.Colon ∷ end 8 ∷ []
  -- rows that are taken, whatever their first word
  pub named_mem : items_of (codes "mem is invalid") ≡ word 1 (codes "mem") ∷ word 5 (codes "is") ∷ word 8 (codes "invalid") ∷ end 15 ∷ []
  pub mem_driven : items_of (codes "mem <= x") ≡ word 1 (codes "mem") ∷ mark 5 s.LessEqual ∷ word 8 (codes "x") ∷ end 9 ∷ []
  pub port_of_memory : items_of (codes "infer mport x") ≡ unsupported 1 form.Memory ∷ word 7 (codes "mport") ∷ word 13 (codes "x") ∷ end 14 ∷ []
  pub another_infer : items_of (codes "infer x") ≡ word 1 (codes "infer") ∷ word 7 (codes "x") ∷ end 8 ∷ []
  pub external : items_of (codes "extmodule m") ≡ unsupported 1 form.ExternalModule ∷ word 11 (codes "m") ∷ end 12 ∷ []
  pub statement : items_of (codes "layer m") ≡ unsupported 1 form.Statement ∷ word 7 (codes "m") ∷ end 8 ∷ []
  pub attached : items_of (codes "attach (a") ≡ unsupported 1 form.Connect ∷ mark 8 s.OpenParen ∷ word 9 (codes "a") ∷ end 10 ∷ []
  pub not_first : items_of (codes "a mem x") ≡ word 1 (codes "a") ∷ word 3 (codes "mem") ∷ word 7 (codes "x") ∷ end 8 ∷ []
  pub operation : items_of (codes "a = validif(b") ≡ word 1 (codes "a") ∷ mark 3 s.Equal ∷ unsupported 5 form.Operation ∷ mark 12 s.OpenParen ∷ word 13 (codes "b") ∷ end 14 ∷ []
  pub named_validif : items_of (codes "a = validif") ≡ word 1 (codes "a") ∷ mark 3 s.Equal ∷ word 5 (codes "validif") ∷ end 12 ∷ []
  -- the bracket that would be the 65th that is open; each line counts anew, and a closed bracket is open no more
  pub deepest : drop 63 (items_of (brackets)) ≡ mark 64 s.OpenParen ∷ end 65 ∷ []
  pub too_deep : drop 64 (items_of (brackets ++ codes "[")) ≡ at 1 65 (token.TooDeep s.OpenBracket) ∷ end 66 ∷ []
  pub closed : drop 64 (items_of (brackets ++ codes "){")) ≡ mark 65 s.CloseParen ∷ mark 66 s.OpenBrace ∷ end 67 ∷ []
  pub closed_too_often : drop 64 (items_of (codes ")" ++ brackets ++ codes "(")) ≡ mark 65 s.OpenParen ∷ at 1 66 (token.TooDeep s.OpenParen) ∷ end 67 ∷ []
  pub next_line : drop 65 (items_of (brackets ++ 10 ∷ codes "(")) ≡ at 2 1 (token.Symbol s.OpenParen) ∷ at 2 2 (token.Symbol s.LineEnd) ∷ []

pub record Ends : Type 0 where
  pub empty : end_of [] ≡ record { line = 1; column = 1 }
  pub no_feed : end_of (codes "ab") ≡ record { line = 1; column = 3 }
  pub feed : end_of (codes "ab" ++ 10 ∷ codes "c" ++ 10 ∷ []) ≡ record { line = 3; column = 1 }
  pub behind_feed : end_of (codes "ab" ++ 10 ∷ codes "c") ≡ record { line = 2; column = 2 }
