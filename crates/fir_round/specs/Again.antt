-- What is spelled somewhere is spelled again as it is printed: of types, expressions and rows.
use Rattle.std.specs.Prelude.{◌≡◌, ◌≤◌, ◌+◌, ◌||◌, ℕ, Bool, true, false, List, [], ◌∷◌, ◌++◌, codes}
use Rattle.std.specs.Str.{bytes_eq}
use Rattle.text_grammar.specs.declared.item.Item.{Item}
use Rattle.text_grammar.specs.declared.item.Symbol.TheVariants as s
use Rattle.text_grammar.specs.declared.item.Token.TheVariants as token
use Rattle.text_grammar.specs.Part.{Part}
use Rattle.fir_lex.specs.Marks.{limit}
use Rattle.fir_lex.specs.Lines.{placed}
use Rattle.fir_lex.specs.Lex.{items_of}
use Rattle.fir_ast.specs.Limits.{Limits}
use Rattle.fir_ast.specs.TypeGrammar.{ty}
use Rattle.fir_ast.specs.ExprGrammar.{expr, expr_from, reference_from}
use Rattle.fir_ast.specs.RowGrammar.{sink_row, sink_marked, invalidated, row_from, port, module_head, circuit_head}
use Rattle.fir_ast.specs.CircuitGrammar.{is_direction}
use Rattle.fir_ast.specs.declared.tree.Ty.{Ty}
use Rattle.fir_ast.specs.declared.tree.Expr.{Expr}
use Rattle.fir_ast.specs.declared.tree.Expr.TheVariants as e
use Rattle.fir_ast.specs.declared.tree.Port.{Port}
use Rattle.fir_ast.specs.declared.tree.Stmt.{Stmt}
use Rattle.fir_print_laws.specs.Atoms.{Atom, space, word, mark, four, type_atoms, expr_atoms, direction_word, port_line, stmt_lines}
use Rattle.fir_print_laws.specs.Items.{items_at}
use Rattle.fir_print_laws.specs.Standing.{is_word_text}
use Rattle.fir_print_laws.specs.Printable.{type_words, type_depth, expr_words, expr_depth, port_fits, stmt_fits}
use Rattle.fir_round.specs.Sound.{Sound, open_after}
use Rattle.fir_round.specs.Relined.{stmt_placed, port_placed}

-- the items of every text
abbrev pub ItemsAreSound : Type 0
ItemsAreSound = (text : List ℕ) → Sound 0 (items_of text)

-- ---- types

pub record TypeAgain (l : Limits) (depth : ℕ) (ts : List Item) (t : Ty) : Type 0 where
  pub level : open_after depth ts ≡ depth
  pub words : type_words t ≡ true
  pub fits : depth + type_depth t ≤ limit
  pub again : (line column : ℕ) → (ty l).spells (items_at line column (type_atoms t)) t

abbrev pub TypesAgain : Type 0
TypesAgain = (l : Limits) (depth : ℕ) (ts : List Item) (t : Ty) → depth ≤ limit → Sound depth ts → (ty l).spells ts t → TypeAgain l depth ts t

-- ---- expressions

pub record ExprAgain (l : Limits) (depth : ℕ) (ts : List Item) (x : Expr) : Type 0 where
  pub level : open_after depth ts ≡ depth
  pub words : expr_words x ≡ true
  pub fits : depth + expr_depth x ≤ limit
  pub again : (line column : ℕ) → (expr l).spells (items_at line column (expr_atoms x)) x

-- an expression that begins with the word w, behind which the part stands
pub record BehindAgain (p : Part Expr) (w : List ℕ) (depth : ℕ) (ts : List Item) (x : Expr) : Type 0 where
  pub level : open_after depth ts ≡ depth
  pub words : expr_words x ≡ true
  pub fits : depth + expr_depth x ≤ limit
  pub behind : List Atom
  pub printed : expr_atoms x ≡ word w ∷ behind
  pub again : (line column : ℕ) → p.spells (items_at line column behind) x

pub record ExprsAgain : Type 0 where
  pub exprs : (l : Limits) (depth : ℕ) (ts : List Item) (x : Expr) → depth ≤ limit → Sound depth ts → (expr l).spells ts x → ExprAgain l depth ts x
  pub from : (l : Limits) (w : List ℕ) (depth : ℕ) (ts : List Item) (x : Expr) → depth ≤ limit → is_word_text w ≡ true → Sound depth ts
      → (expr_from l w).spells ts x → BehindAgain (expr_from l w) w depth ts x
  pub references : (l : Limits) (w : List ℕ) (depth : ℕ) (ts : List Item) (x : Expr) → depth ≤ limit → is_word_text w ≡ true → Sound depth ts
      → (reference_from l w).spells ts x → BehindAgain (reference_from l w) w depth ts x

-- ---- rows

-- tokens and the line's end behind them, wherever they stand
abbrev pub row_items : ℕ → ℕ → List Atom → ℕ → List Item
row_items line column xs end = items_at line column xs ++ placed line end (token.Symbol s.LineEnd) ∷ []

-- the words that begin no printed row of one line
abbrev pub leads_block : List ℕ → Bool
leads_block w = bytes_eq w (codes "else") || (bytes_eq w (codes "when") || is_direction w)

-- a statement of one line, printed again: its first word and what stands behind it
pub record RowAgain (l : Limits) (x : Stmt) : Type 0 where
  pub first : List ℕ
  pub behind : List Atom
  pub printed : (indent : List Atom) → stmt_lines x indent ≡ (indent ++ (word first ∷ behind)) ∷ []
  pub fits : stmt_fits x ≡ true
  pub plain : leads_block first ≡ false
  pub again : (line column at end : ℕ) → (row_from l column line first).spells (row_items line at behind end) (stmt_placed x line).0
  pub one : (line : ℕ) → (stmt_placed x line).1 ≡ 1 + line

-- a part that spells statements of one line, whose line ends
abbrev pub SpellsRows : Limits → Part Stmt → Type 0
SpellsRows l p = (ts : List Item) (x : Stmt) → Sound 0 ts → p.spells ts x → RowAgain l x × (open_after 0 ts ≡ 0)

pub record PortAgain (l : Limits) (output : Bool) (name : List ℕ) (p : Port) : Type 0 where
  pub behind : List Atom
  pub printed : port_line p ≡ four ++ (word (direction_word output) ∷ space ∷ word name ∷ behind)
  pub fits : port_fits p ≡ true
  pub again : (line at end : ℕ) → (port l line output name).spells (row_items line at behind end) (port_placed p line).0

-- the name of a module or of the circuit, the colon and the line's end
pub record HeadAgain (p : Part (List ℕ)) (ts : List Item) (name : List ℕ) : Type 0 where
  pub sound : is_word_text name ≡ true
  pub level : open_after 0 ts ≡ 0
  pub again : (line column end : ℕ) → p.spells (row_items line column (word name ∷ space ∷ mark s.Colon ∷ []) end) name

pub record RowsAgain : Type 0 where
  pub rows : (l : Limits) (column line : ℕ) (w : List ℕ) → is_word_text w ≡ true → SpellsRows l (row_from l column line w)
  pub sinks : (l : Limits) (line : ℕ) (w : List ℕ) → is_word_text w ≡ true → SpellsRows l (sink_row l line w)
  pub marked : (l : Limits) (line : ℕ) (w : List ℕ) → is_word_text w ≡ true → SpellsRows l (sink_marked l line w)
  pub invalid : (l : Limits) (line : ℕ) (w : List ℕ) → is_word_text w ≡ true → SpellsRows l (invalidated line (e.Ident w))
  pub ports : (l : Limits) (line : ℕ) (output : Bool) (name : List ℕ) (ts : List Item) (p : Port) → is_word_text name ≡ true → Sound 0 ts
      → (port l line output name).spells ts p → PortAgain l output name p × (open_after 0 ts ≡ 0)
  pub module_heads : (ts : List Item) (name : List ℕ) → Sound 0 ts → module_head.spells ts name → HeadAgain module_head ts name
  pub circuit_heads : (ts : List Item) (name : List ℕ) → Sound 0 ts → circuit_head.spells ts name → HeadAgain circuit_head ts name
