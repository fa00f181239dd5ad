-- What a circuit's spelling begins with is a front, and each front goes on, maybe within wider limits.
use Rattle.std.proofs.Common.{◌≡◌, ℕ, zero, suc, ◌<◌, Bool, true, ◌&&◌, List, [], refl, arith}
use Rattle.std.specs.Prelude.{codes}
use Rattle.std.specs.Str.{bytes_eq}
use Rattle.text_grammar.specs.declared.item.Item.{Item}
use Rattle.text_grammar.specs.declared.item.Symbol.TheVariants as s
use Rattle.text_grammar.specs.declared.fault.Form.TheVariants.{Connect}
use Rattle.text_grammar.specs.declared.fault.Kind.{Kind}
use Rattle.text_grammar.specs.declared.fault.Kind.TheVariants.{HeadTooDeep, Unsupported}
use Rattle.text_grammar.specs.Part.{Part, first, second, cons, both, nothing, unless, stop, blames_head}
use Rattle.text_grammar.specs.Terminals.{at, deeper, is_word, is_symbol, is_name, keyword, mark, name, number}
use Rattle.text_grammar.proofs.Laws.{Begins, Lives, Narrow}
use Rattle.text_grammar.proofs.Completions.{Fronted, stop_fronted, blames_fronted}
use Rattle.fir_rows.proofs.Fits.{Fits, mark_fits, word_fits, name_fits, number_fits, nothing_fits, unless_fits, both_fits, after_fits, either_fits, pick_fits, many_fits}
use Rattle.fir_ast.specs.Limits.{Limits}
use Rattle.fir_ast.specs.ExprGrammar.{expr, expr_from, reference_from}
use Rattle.fir_ast.specs.RowGrammar.{pair, sink_row, sink_marked, invalidated, row_from, port, module_head, circuit_head}
use Rattle.fir_ast.specs.Lines.{begins_line, is_else, is_line, line_word, first_word, else_word, indented, many_from}
use Rattle.fir_ast.specs.CircuitGrammar.{Rows, Line, Nested, no_connect, goes_on_is, else_row, else_rows, and_else_rows, when_is, when_named, when_from, statement, headed, row, first_row, rows, block, opens, opened_block, else_when, else_sink, else_block, else_from, else_headed, else_line, branch, branches, make_when, opened, nested_within, port_only, no_port, is_output, is_direction, port_line, direction_is, direction_named, direction, line_from, line_headed, line, first_line, still_ports, lines_behind, lines, body, is_module, public_word, module_word, make_module, titled_module, one_module, modules, version, preamble, circuit_word, make_circuit, titled, circuit_text, circuit_within}
use Rattle.fir_ast.specs.declared.tree.Expr.{Expr}
use Rattle.fir_ast.specs.declared.tree.Expr.TheVariants as e
use Rattle.fir_read.proofs.RowLaws.{Fronts, Steps}
use Rattle.fir_read.proofs.WordLaws.{line_word_fronted, first_word_fronted, else_word_fronted, circuit_word_fronted, line_word_step, first_word_step, else_word_step, circuit_word_step}
use Rattle.fir_read.proofs.LineLaws.{indented_fronted, indented_lives, from_fronted}
use Rattle.fir_read.proofs.Steps.{rows_begins, lines_begins, modules_begins, opened_lives}

-- ---- the ways to make a part that rows do not have

stop_fits : {A : Type 0} (kind : Kind) (Q : Part A) → Lives Q → Fits (stop kind) Q
stop_fits kind Q l = record { fronted = stop_fronted kind Q l; lives = l }

blames_lives : {A : Type 0} (Q : Part A) → Lives Q → Lives (blames_head Q)
unfolding blames_head
blames_lives Q l = record { text = l.text; value = l.value; spelled = l.spelled }

blames_fits : {A : Type 0} (P Q : Part A) → Fits P Q → Fits (blames_head P) (blames_head Q)
blames_fits P Q h = record { fronted = blames_fronted P Q h.fronted h.lives; lives = blames_lives Q h.lives }

indented_fits : {A : Type 0} (c : ℕ) (P Q : ℕ → Part A) → ((i : ℕ) → Fits (P i) (Q i)) → ((i : ℕ) → Begins (Q i) (at i)) → Fits (indented c P) (indented c Q)
indented_fits c P Q h g = record { fronted = indented_fronted c P Q (λ i. (h i).fronted) g (λ i. (h i).lives); lives = indented_lives c Q (h (suc c)).lives (g (suc c)) }

from_lives : {S A : Type 0} (t : Item → Bool) (Q : S → Part A) (next : S → A → S) (s : S) → Lives (many_from t Q next s)
unfolding many_from
from_lives t Q next s = record { text = []; value = []; spelled = refl }

from_fits : {S A : Type 0} (t : Item → Bool) (P Q : S → Part A) (next : S → A → S) → ((s : S) → Fits (P s) (Q s)) → (s : S) → Fits (many_from t P next s) (many_from t Q next s)
from_fits t P Q next h s = record { fronted = from_fronted t P Q next (λ z. (h z).fronted) s; lives = from_lives t Q next s }

abbrev Any : Kind → Type 0
Any k = Unit {0}

line_word_fits : (c : ℕ) (text : List ℕ) → bytes_eq text text ≡ true → Fits (line_word c text) (line_word c text)
line_word_fits c text h = record { fronted = line_word_fronted c text h; lives = (line_word_step {E = Any} {L = Unit {0}} c text h).lives tt }

first_word_fits : (c : ℕ) → Fits (first_word c) (first_word c)
first_word_fits c = record { fronted = first_word_fronted c; lives = (first_word_step {E = Any} {L = Unit {0}} c).lives tt }

else_word_fits : (c : ℕ) → Fits (else_word c) (else_word c)
else_word_fits c = record { fronted = else_word_fronted c; lives = (else_word_step {E = Any} {L = Unit {0}} c).lives tt }

circuit_word_fits : Fits circuit_word circuit_word
circuit_word_fits = record { fronted = circuit_word_fronted; lives = (circuit_word_step {E = Any} {L = Unit {0}}).lives tt }

-- ---- fronts
-- from one kind of nested `when` to another
pub record Goes (n n' : Nested) : Type 1 where
  pub goes : (c i : ℕ) (p q : Part Expr) → Fits p q → Fits (n c i p) (n' c i q)

module _ (l m : Limits) (b : Fronts l m) where
  else_row_fits : (c : ℕ) → Fits (else_row l c) (else_row m c)
  unfolding else_row
  else_row_fits c = after_fits (else_word c) (else_word c) _ _ (else_word_fits c) (λ h. b.rows.sink_row h.0 h.1)

  else_rows_fits : (c : ℕ) → Fits (else_rows l c) (else_rows m c)
  unfolding else_rows
  else_rows_fits c = many_fits (is_else c) (else_row l c) (else_row m c) (else_row_fits c)

  and_else_fits : (c : ℕ) (p q : Part _) → Fits p q → Fits (and_else_rows l c p) (and_else_rows m c q)
  unfolding and_else_rows
  and_else_fits c p q h = both_fits pair p q (else_rows l c) (else_rows m c) h (else_rows_fits c)

  opens_fits : Fits opens opens
  unfolding opens
  opens_fits = both_fits second (mark s.Colon) (mark s.Colon) (mark s.LineEnd) (mark s.LineEnd) (mark_fits s.Colon) (mark_fits s.LineEnd)

  else_sink_fits : (c i : ℕ) (w : List ℕ) → Fits (else_sink l c i w) (else_sink m c i w)
  unfolding else_sink
  else_sink_fits c i w = both_fits _ (sink_row l i w) (sink_row m i w) (else_rows l c) (else_rows m c) (b.rows.sink_row i w) (else_rows_fits c)

  no_port_fits : (p q : Part Rows) → Fits p q → Fits (no_port p) (no_port q)
  unfolding no_port
  no_port_fits p q h = both_fits _ p q (nothing tt) (nothing tt) h (nothing_fits tt)

  port_line_fits : (c i : ℕ) (w n : List ℕ) → Fits (port_line l c i w n) (port_line m c i w n)
  unfolding port_line
  port_line_fits c i w n = both_fits port_only (port l i (is_output w) n) (port m i (is_output w) n) (else_rows l c) (else_rows m c) (b.rows.port i (is_output w) n) (else_rows_fits c)

  direction_is_fits : (c i : ℕ) (w n : List ℕ) → Fits (direction_is l c i w n) (direction_is m c i w n)
  unfolding direction_is
  direction_is_fits c i w n =
      either_fits (is_symbol s.Colon) _ _ _ _ (port_line_fits c i w n) (no_port_fits _ _ (and_else_fits c (invalidated i (e.Ident w)) (invalidated i (e.Ident w)) (b.rows.invalidated i (e.Ident w))))

  direction_named_fits : (c i : ℕ) (w n : List ℕ) → Fits (direction_named l c i w n) (direction_named m c i w n)
  unfolding direction_named
  direction_named_fits c i w n = pick_fits (bytes_eq n (codes "is")) _ _ _ _ (direction_is_fits c i w n) (port_line_fits c i w n)

  direction_fits : (c i : ℕ) (w : List ℕ) → Fits (direction l c i w) (direction m c i w)
  unfolding direction
  direction_fits c i w =
      either_fits is_name _ _ _ _ (after_fits name name (direction_named l c i w) (direction_named m c i w) name_fits (direction_named_fits c i w))
      (no_port_fits _ _ (and_else_fits c (sink_marked l i w) (sink_marked m i w) (b.rows.sink_marked i w)))

  module _ (n n' : Nested) (g : Goes n n') where
    when_is_fits : (c i : ℕ) (w v : List ℕ) → Fits (when_is l n c i w v) (when_is m n' c i w v)
    unfolding when_is no_connect
    when_is_fits c i w v =
        both_fits second (unless (is_symbol s.LeftArrow) (Unsupported Connect)) (unless (is_symbol s.LeftArrow) (Unsupported Connect)) _ _ (unless_fits (is_symbol s.LeftArrow) (Unsupported Connect))
        (either_fits goes_on_is _ _ _ _ (g.goes c i (reference_from l v) (reference_from m v) (b.reference_from v))
        (and_else_fits c (invalidated i (e.Ident w)) (invalidated i (e.Ident w)) (b.rows.invalidated i (e.Ident w))))

    when_named_fits : (c i : ℕ) (w v : List ℕ) → Fits (when_named l n c i w v) (when_named m n' c i w v)
    unfolding when_named
    when_named_fits c i w v = pick_fits (bytes_eq v (codes "is")) _ _ _ _ (when_is_fits c i w v) (g.goes c i (expr_from l v) (expr_from m v) (b.expr_from v))

    when_from_fits : (c i : ℕ) (w : List ℕ) → Fits (when_from l n c i w) (when_from m n' c i w)
    unfolding when_from
    when_from_fits c i w =
        either_fits is_name _ _ _ _ (after_fits name name (when_named l n c i w) (when_named m n' c i w) name_fits (when_named_fits c i w))
        (and_else_fits c (sink_marked l i w) (sink_marked m i w) (b.rows.sink_marked i w))

    statement_fits : (c i : ℕ) (w : List ℕ) → Fits (statement l n c i w) (statement m n' c i w)
    unfolding statement
    statement_fits c i w = pick_fits (bytes_eq w (codes "when")) _ _ _ _ (when_from_fits c i w) (and_else_fits c (row_from l c i w) (row_from m c i w) (b.rows.row_from c i w))

    row_fits : (c : ℕ) → Fits (row l n c) (row m n' c)
    unfolding row headed
    row_fits c = blames_fits _ _ (after_fits (first_word c) (first_word c) (λ h. statement l n c h.0 h.1) (λ h. statement m n' c h.0 h.1) (first_word_fits c) (λ h. statement_fits c h.0 h.1))

    first_row_fits : (c : ℕ) → Fits (first_row l n c) (first_row m n' c)
    unfolding first_row
    first_row_fits c = either_fits (is_else c) _ _ _ _ (and_else_fits c (else_row l c) (else_row m c) (else_row_fits c)) (row_fits c)

    rows_fits : (c : ℕ) → Fits (rows l n c) (rows m n' c)
    unfolding rows
    rows_fits c = both_fits _ (first_row l n c) (first_row m n' c) _ _ (first_row_fits c) (many_fits (is_line c) (row l n c) (row m n' c) (row_fits c))

    block_fits : (c : ℕ) → Fits (block l n c) (block m n' c)
    unfolding block
    block_fits c = indented_fits c (rows l n) (rows m n') rows_fits (rows_begins m n')

    opened_block_fits : (c : ℕ) → Fits (opened_block l n c) (opened_block m n' c)
    unfolding opened_block
    opened_block_fits c = both_fits second opens opens (block l n c) (block m n' c) opens_fits (block_fits c)

    else_when_fits : (c i : ℕ) → Fits (else_when l n c i) (else_when m n' c i)
    unfolding else_when
    else_when_fits c i = both_fits _ (keyword (codes "when")) (keyword (codes "when")) _ _ (word_fits (codes "when") refl) (g.goes c i (expr l) (expr m) b.expr)

    else_from_fits : (c i : ℕ) (w : List ℕ) → Fits (else_from l n c i w) (else_from m n' c i w)
    unfolding else_from else_block
    else_from_fits c i w =
        either_fits (is_symbol s.Colon) _ _ _ _ (both_fits pair (opened_block l n c) (opened_block m n' c) (else_rows l c) (else_rows m c) (opened_block_fits c) (else_rows_fits c))
        (either_fits (is_word (codes "when")) _ _ _ _ (else_when_fits c i) (else_sink_fits c i w))

    else_line_fits : (c : ℕ) → Fits (else_line l n c) (else_line m n' c)
    unfolding else_line else_headed
    else_line_fits c = blames_fits _ _ (after_fits (else_word c) (else_word c) (λ h. else_from l n c h.0 h.1) (λ h. else_from m n' c h.0 h.1) (else_word_fits c) (λ h. else_from_fits c h.0 h.1))

    branch_fits : (c : ℕ) → Fits (branch l n c) (branch m n' c)
    unfolding branch
    branch_fits c = either_fits (is_else c) _ _ _ _ (else_line_fits c) (nothing_fits ([], []))

    branches_fits : (c : ℕ) → Fits (branches l n c) (branches m n' c)
    unfolding branches
    branches_fits c = both_fits pair (opened_block l n c) (opened_block m n' c) (branch l n c) (branch m n' c) (opened_block_fits c) (branch_fits c)

    pub opened_fits : Goes (opened l n) (opened m n')
    unfolding opened
    opened_fits = record {
      goes = λ c i p q h. both_fits (make_when i) p q (branches l n c) (branches m n' c) h (branches_fits c);
    }

    line_from_fits : (ports : Bool) (c i : ℕ) (w : List ℕ) → Fits (line_from l n ports c i w) (line_from m n' ports c i w)
    unfolding line_from
    line_from_fits ports c i w = pick_fits (ports && is_direction w) _ _ _ _ (direction_fits c i w) (no_port_fits _ _ (statement_fits c i w))

    line_fits : (c : ℕ) (ports : Bool) → Fits (line l n c ports) (line m n' c ports)
    unfolding line line_headed
    line_fits c ports =
        blames_fits _ _ (after_fits (first_word c) (first_word c) (λ h. line_from l n ports c h.0 h.1) (λ h. line_from m n' ports c h.0 h.1) (first_word_fits c) (λ h. line_from_fits ports c h.0 h.1))

    first_line_fits : (c : ℕ) → Fits (first_line l n c) (first_line m n' c)
    unfolding first_line
    first_line_fits c = either_fits (is_else c) _ _ _ _ (no_port_fits _ _ (and_else_fits c (else_row l c) (else_row m c) (else_row_fits c))) (line_fits c true)

    lines_behind_fits : (c : ℕ) (v : Line) → Fits (lines_behind l n c v) (lines_behind m n' c v)
    unfolding lines_behind
    lines_behind_fits c v = both_fits _ _ _ (nothing tt) (nothing tt) (from_fits (is_line c) (line l n c) (line m n' c) still_ports (line_fits c) (still_ports true v)) (nothing_fits tt)

    lines_fits : (c : ℕ) → Fits (lines l n c) (lines m n' c)
    unfolding lines
    lines_fits c = after_fits (first_line l n c) (first_line m n' c) (lines_behind l n c) (lines_behind m n' c) (first_line_fits c) (lines_behind_fits c)

    body_fits : (c : ℕ) → Fits (body l n c) (body m n' c)
    unfolding body
    body_fits c = either_fits (deeper c) _ _ _ _ (indented_fits c (lines l n) (lines m n') lines_fits (lines_begins m n')) (nothing_fits ([], []))

    titled_module_fits : (c i : ℕ) → Fits (titled_module l n c i) (titled_module m n' c i)
    unfolding titled_module
    titled_module_fits c i = both_fits (make_module i) module_head module_head (body l n c) (body m n' c) b.rows.module_head (body_fits c)

    one_module_fits : (c : ℕ) → Fits (one_module l n c) (one_module m n' c)
    unfolding one_module module_word public_word
    one_module_fits c =
        after_fits (module_word c) (module_word c) (titled_module l n c) (titled_module m n' c)
        (either_fits (begins_line c (codes "module")) _ _ _ _ (line_word_fits c (codes "module") refl) (both_fits first (line_word c (codes "public")) (line_word c (codes "public")) (keyword (codes "module")) (keyword (codes "module")) (line_word_fits c (codes "public") refl) (word_fits (codes "module") refl)))
        (titled_module_fits c)

    modules_fits : (c : ℕ) → Fits (modules l n c) (modules m n' c)
    unfolding modules
    modules_fits c = both_fits cons (one_module l n c) (one_module m n' c) _ _ (one_module_fits c) (many_fits (is_module c) (one_module l n c) (one_module m n' c) (one_module_fits c))

    titled_fits : (p : ℕ × ℕ) → Fits (titled l n p) (titled m n' p)
    unfolding titled
    titled_fits p = both_fits (make_circuit p.0) circuit_head circuit_head _ _ b.rows.circuit_head (indented_fits p.1 (modules l n) (modules m n') modules_fits (modules_begins m n'))

    number_and : {A : Type 0} (p : Part A) → Fits p p → Fits (both second number p) (both second number p)
    number_and p h = both_fits second number number p p number_fits h

    version_fits : Fits version version
    unfolding version
    version_fits =
        both_fits second (keyword (codes "FIRRTL")) (keyword (codes "FIRRTL")) _ _ (word_fits (codes "FIRRTL") refl)
        (both_fits second (keyword (codes "version")) (keyword (codes "version")) _ _ (word_fits (codes "version") refl)
        (number_and _ (both_fits second (mark s.Dot) (mark s.Dot) _ _ (mark_fits s.Dot) (number_and _ (both_fits second (mark s.Dot) (mark s.Dot) _ _ (mark_fits s.Dot) (number_and (mark s.LineEnd) (mark_fits s.LineEnd)))))))

    preamble_fits : Fits preamble preamble
    unfolding preamble
    preamble_fits = either_fits (is_word (codes "FIRRTL")) version version (nothing tt) (nothing tt) version_fits (nothing_fits tt)

    pub circuit_fits : Fits (blames_head (circuit_text l n)) (blames_head (circuit_text m n'))
    unfolding circuit_text
    circuit_fits = blames_fits _ _ (both_fits second preamble preamble _ _ preamble_fits (after_fits circuit_word circuit_word (titled l n) (titled m n') circuit_word_fits titled_fits))

-- ---- within limits

module _ (l m : Limits) (b : Fronts l m) (s : Steps Narrow (Unit {0}) l m) where
  nested_fits : (d d' : ℕ) → d < d' → Goes (nested_within l d) (nested_within m d')
  unfolding nested_within
  nested_fits d zero lt = absurd (omega arith)
  nested_fits zero (suc d') lt = record { goes = λ c i p q h. stop_fits HeadTooDeep (opened m (nested_within m d') c i q) (opened_lives l m s (nested_within m d') c i q h.lives) }
  nested_fits (suc d) (suc d') lt = record { goes = (opened_fits l m b (nested_within l d) (nested_within m d') (nested_fits d d' (omega arith))).goes }

  pub circuit_fronted : (d d' : ℕ) → d < d' → Fronted (circuit_within l d) (circuit_within m d')
  unfolding circuit_within
  circuit_fronted d d' lt = (circuit_fits l m b (nested_within l d) (nested_within m d') (nested_fits d d' lt)).fronted
