-- Items that can be printed: their words, numbers and strings are such that a text holds them, and no bracket passes the limit of
-- brackets open at once on a line.
use Rattle.std.specs.Prelude.{◌≡◌, ◌<◌, ◌-◌, ◌^◌, ℕ, suc, true, List, [], ◌∷◌, Option, Some, None}
use Rattle.text_grammar.specs.declared.item.Item.{Item}
use Rattle.text_grammar.specs.declared.item.Symbol.{Symbol}
use Rattle.text_grammar.specs.declared.item.Symbol.TheVariants as s
use Rattle.text_grammar.specs.declared.item.Token.{Token}
use Rattle.text_grammar.specs.declared.item.Token.TheVariants as token
use Rattle.fir_lex.specs.Marks.{limit, symbol_bracket}
use Rattle.fir_lex.specs.declared.mark.Bracket.{Bracket}
use Rattle.fir_lex.specs.declared.mark.Bracket.TheVariants.{Open, Close}
use Rattle.fir_print_laws.specs.Standing.{is_word_text, is_closed, no_feed}

-- a token as texts hold it; of those that no circuit has, nothing is asked
abbrev pub SoundToken : Token → Type 0
SoundToken (token.Word w) = is_word_text w ≡ true
SoundToken (token.Number n) = n < 2 ^ 128
SoundToken (token.Text t) = (is_closed 34 t ≡ true) × (no_feed t ≡ true)
SoundToken _ = Unit {0}

-- room for one more bracket, if this is one that opens
abbrev pub BracketRoom : ℕ → Option Bracket → Type 0
BracketRoom depth (Some Open) = depth < limit
BracketRoom depth (Some Close) = Unit {0}
BracketRoom depth None = Unit {0}

abbrev pub Room : ℕ → Token → Type 0
Room depth (token.Symbol symbol) = BracketRoom depth (symbol_bracket symbol)
Room depth _ = Unit {0}

-- how many brackets are open behind one
abbrev pub bracket_after : ℕ → Option Bracket → ℕ
bracket_after depth (Some Open) = suc depth
bracket_after depth (Some Close) = depth - 1
bracket_after depth None = depth

-- a line's end closes them all
abbrev pub symbol_after : ℕ → Symbol → ℕ
symbol_after depth s.LineEnd = 0
symbol_after depth symbol = bracket_after depth (symbol_bracket symbol)

abbrev pub token_after : ℕ → Token → ℕ
token_after depth (token.Symbol symbol) = symbol_after depth symbol
token_after depth _ = depth

-- items that can be printed, where so many brackets are open before them
abbrev pub Sound : ℕ → List Item → Type 0
Sound depth [] = Unit {0}
Sound depth (x ∷ rest) = Room depth x.token × SoundToken x.token × Sound (token_after depth x.token) rest

-- how many brackets are open behind them
abbrev pub open_after : ℕ → List Item → ℕ
open_after depth [] = depth
open_after depth (x ∷ rest) = open_after (token_after depth x.token) rest
