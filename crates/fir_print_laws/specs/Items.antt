-- The items of printed lines, with their places in the printed text.
use Rattle.std.specs.Prelude.{ℕ, suc, ◌+◌, Some, None, List, [], ◌∷◌, ◌++◌, length}
use Rattle.text_grammar.specs.declared.item.Item.{Item}
use Rattle.text_grammar.specs.declared.item.Symbol.TheVariants as s
use Rattle.text_grammar.specs.declared.item.Token.TheVariants as token
use Rattle.fir_lex.specs.Lines.{placed}
use Rattle.fir_ast.specs.declared.tree.Circuit.{Circuit}
use Rattle.fir_print_laws.specs.Atoms.{Atom, Line, atom_text, text, circuit_lines}

-- the items of tokens and spaces, the first of which stands at a column
abbrev pub items_at : ℕ → ℕ → List Atom → List Item
items_at line column [] = []
items_at line column (None ∷ rest) = items_at line (column + 1) rest
items_at line column (Some t ∷ rest) = placed line column t ∷ items_at line (column + length (atom_text (Some t))) rest

-- the items of a line, and its end right behind it
abbrev pub line_items : ℕ → Line → List Item
line_items line xs = items_at line 1 xs ++ placed line (1 + length (text xs)) (token.Symbol s.LineEnd) ∷ []

abbrev pub lines_items : ℕ → List Line → List Item
lines_items line [] = []
lines_items line (xs ∷ more) = line_items line xs ++ lines_items (suc line) more

-- the items of a printed circuit
unfoldable pub printed_items : Circuit → List Item
printed_items c = lines_items 1 (circuit_lines c)
