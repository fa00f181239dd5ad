-- What the laws of circuits need of the parts below: expressions, rows, ports.
use Rattle.std.proofs.Common.{◌≡◌, ℕ, Bool, true, false, List, [], codes}
use Rattle.std.specs.Prelude.{◌⊎◌, ◌||◌}
use Rattle.text_grammar.specs.declared.item.Item.{Item}
use Rattle.text_grammar.specs.declared.item.Symbol.TheVariants as s
use Rattle.text_grammar.specs.declared.fault.Kind.{Kind}
use Rattle.text_grammar.specs.declared.fault.Kind.TheVariants.{TooDeep, HeadTooDeep}
use Rattle.text_grammar.specs.Part.{starts}
use Rattle.text_grammar.specs.Terminals.{is_word, is_symbol, is_name}
use Rattle.text_grammar.proofs.Laws.{Step, IsRead, Begins, Avoids, closed}
use Rattle.fir_rows.proofs.Fits.{Fits}
use Rattle.fir_rows.proofs.RowFits.{RowFits}
use Rattle.fir_ast.specs.Limits.{Limits}
use Rattle.fir_ast.specs.ExprGrammar as x
use Rattle.fir_ast.specs.RowGrammar as r
use Rattle.fir_ast.specs.declared.tree.Expr.{Expr}

-- to the same limits, or to wider ones
pub record Steps (E : Kind → Type 0) (L : Type 0) (l m : Limits) : Type 0 where
  pub deep : E TooDeep → E HeadTooDeep
  pub expr : Step E L (x.expr l) (x.expr m)
  pub expr_from : (w : List ℕ) → Step E L (x.expr_from l w) (x.expr_from m w)
  pub reference_from : (w : List ℕ) → Step E L (x.reference_from l w) (x.reference_from m w)
  pub sink_row : (line : ℕ) (w : List ℕ) → Step E L (r.sink_row l line w) (r.sink_row m line w)
  pub sink_marked : (line : ℕ) (w : List ℕ) → Step E L (r.sink_marked l line w) (r.sink_marked m line w)
  pub row_from : (column line : ℕ) (w : List ℕ) → Step E L (r.row_from l column line w) (r.row_from m column line w)
  pub port : (line : ℕ) (output : Bool) (w : List ℕ) → Step E L (r.port l line output w) (r.port m line output w)
  pub invalidated : (line : ℕ) (sink : Expr) → Step E L (r.invalidated line sink) (r.invalidated line sink)
  pub module_head : Step E L r.module_head r.module_head
  pub circuit_head : Step E L r.circuit_head r.circuit_head

abbrev pub is_suffix : Item → Bool
is_suffix x = is_symbol s.Dot x || is_symbol s.OpenBracket x

-- what is spelled is read, before what does not go on with it
pub record Reading (l : Limits) : Type 0 where
  pub more : Item → Bool
  pub colon_ends : (x : Item) → is_symbol s.Colon x ≡ true → more x ≡ false
  pub expr : IsRead (x.expr l) more
  pub expr_from : (w : List ℕ) → IsRead (x.expr_from l w) more
  pub reference_from : (w : List ℕ) → IsRead (x.reference_from l w) more
  -- a reference goes on from its first word with nothing, or with `.` or `[`
  pub suffixes : (w : List ℕ) (ts : List Item) (e : Expr) → (x.reference_from l w).spells ts e → (ts ≡ []) ⊎ (starts is_suffix ts ≡ true)
  pub sink_row : (line : ℕ) (w : List ℕ) → IsRead (r.sink_row l line w) closed
  pub sink_no_colon : (line : ℕ) (w : List ℕ) → Avoids (r.sink_row l line w) (is_symbol s.Colon) closed
  pub sink_no_when : (line : ℕ) (w : List ℕ) → Avoids (r.sink_row l line w) (is_word (codes "when")) closed
  pub sink_marked : (line : ℕ) (w : List ℕ) → IsRead (r.sink_marked l line w) closed
  pub marked_no_name : (line : ℕ) (w : List ℕ) → Avoids (r.sink_marked l line w) is_name closed
  pub row_from : (column line : ℕ) (w : List ℕ) → IsRead (r.row_from l column line w) closed
  pub port : (line : ℕ) (output : Bool) (w : List ℕ) → IsRead (r.port l line output w) closed
  pub port_begins : (line : ℕ) (output : Bool) (w : List ℕ) → Begins (r.port l line output w) (is_symbol s.Colon)
  pub invalidated : (line : ℕ) (sink : Expr) → IsRead (r.invalidated line sink) closed
  pub invalidated_begins : (line : ℕ) (sink : Expr) → Begins (r.invalidated line sink) (is_word (codes "invalid"))
  pub module_head : IsRead r.module_head closed
  pub circuit_head : IsRead r.circuit_head closed

-- what a spelling begins with is a front, and each front goes on within the wider limits
pub record Fronts (l m : Limits) : Type 0 where
  pub expr : Fits (x.expr l) (x.expr m)
  pub expr_from : (w : List ℕ) → Fits (x.expr_from l w) (x.expr_from m w)
  pub reference_from : (w : List ℕ) → Fits (x.reference_from l w) (x.reference_from m w)
  pub rows : RowFits l m
