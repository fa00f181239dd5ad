-- Printed lines that are cut into their own tokens again: no token goes on into what follows it.
use Rattle.std.specs.Prelude.{◌≡◌, ◌<◌, ◌^◌, ◌==◌, ◌&&◌, not, ℕ, Bool, true, false, Some, None, List, [], ◌∷◌, ◌++◌, slice_index}
use Rattle.std.specs.List.{list_all, prefix_len}
use Rattle.text_grammar.specs.Lex.{begins_word, is_in}
use Rattle.text_grammar.specs.declared.lex.Class.TheVariants as run_of
use Rattle.text_grammar.specs.declared.item.Symbol.{Symbol}
use Rattle.text_grammar.specs.declared.item.Symbol.TheVariants as s
use Rattle.text_grammar.specs.declared.item.Token.{Token}
use Rattle.text_grammar.specs.declared.item.Token.TheVariants as token
use Rattle.fir_lex.specs.Pieces.{is_blank}
use Rattle.fir_lex.specs.Marks.{marked}
use Rattle.fir_print_laws.specs.Atoms.{Atom, Line, text}
use Rattle.fir_print_laws.specs.Items.{line_items}

-- a word of the language
abbrev pub is_word_text : List ℕ → Bool
is_word_text [] = false
is_word_text (b ∷ rest) = begins_word b && list_all (is_in run_of.Word) rest

-- no line feed (10)
abbrev pub no_feed : List ℕ → Bool
no_feed bytes = list_all (λ b. not (b == 10)) bytes

-- no quote (34) stands in the bytes without a backslash (92) before it, and no backslash at their end; before is the byte in
-- front of them
abbrev pub is_closed : ℕ → List ℕ → Bool
is_closed before [] = not (before == 92)
is_closed before (b ∷ t) = not (b == 34 && not (before == 92)) && is_closed b t

-- what follows goes on with no word and no number
abbrev pub Quiet : List ℕ → Type 0
Quiet rest = is_in run_of.Word (slice_index rest 0) ≡ false

-- a symbol that is printed, before bytes with which no longer one begins: `<=` and `<-`, `=>`, `{|`
abbrev pub MarkStops : Symbol → List ℕ → Type 0
MarkStops s.Less rest = ((slice_index rest 0 == 61) ≡ false) × ((slice_index rest 0 == 45) ≡ false)
MarkStops s.Equal rest = (slice_index rest 0 == 62) ≡ false
MarkStops s.OpenBrace rest = (slice_index rest (prefix_len is_blank rest) == 124) ≡ false
MarkStops s.Greater rest = Unit {0}
MarkStops s.OpenParen rest = Unit {0}
MarkStops s.CloseParen rest = Unit {0}
MarkStops s.OpenBracket rest = Unit {0}
MarkStops s.CloseBracket rest = Unit {0}
MarkStops s.CloseBrace rest = Unit {0}
MarkStops s.Colon rest = Unit {0}
MarkStops s.Comma rest = Unit {0}
MarkStops s.Dot rest = Unit {0}
MarkStops s.Minus rest = Unit {0}
MarkStops _ rest = ⊥

-- a token that can be printed, and does not go on into what follows it
abbrev pub Stops : Token → List ℕ → Type 0
Stops (token.Word w) rest = (is_word_text w ≡ true) × Quiet rest
Stops (token.Number n) rest = (n < 2 ^ 128) × Quiet rest
Stops (token.Text t) rest = (is_closed 34 t ≡ true) × (no_feed t ≡ true)
Stops (token.Symbol symbol) rest = MarkStops symbol rest
Stops _ rest = ⊥

-- each token stops, before a text behind them all
abbrev pub Stands : List Atom → List ℕ → Type 0
Stands [] rest = Unit {0}
Stands (None ∷ xs) rest = Stands xs rest
Stands (Some t ∷ xs) rest = Stops t (text xs ++ rest) × Stands xs rest

-- the last of them is a token
abbrev pub Ends : List Atom → Type 0
Ends [] = ⊥
Ends (None ∷ []) = ⊥
Ends (Some t ∷ []) = Unit {0}
Ends (x ∷ y ∷ rest) = Ends (y ∷ rest)

-- a line whose tokens stop, which ends with a token, and on which nothing is marked
pub record IsLine (xs : Line) : Type 0 where
  pub stands : Stands xs []
  pub ends : Ends xs
  pub unmarked_items : (line : ℕ) → marked (line_items line xs) ≡ line_items line xs

abbrev pub AreLines : List Line → Type 0
AreLines [] = Unit {0}
AreLines (xs ∷ more) = IsLine xs × AreLines more
