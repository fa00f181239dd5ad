-- What is read of a circuit text is spelled so, and a fault stands where it is answered.
use Rattle.std.proofs.Common.{◌≡◌, ℕ, zero, suc, ◌<◌, Bool, true, ◌&&◌, List, [], refl, arith, inl, inr}
use Rattle.std.specs.Prelude.{codes}
use Rattle.std.specs.Str.{bytes_eq}
use Rattle.text_grammar.specs.declared.item.Item.{Item}
use Rattle.text_grammar.specs.declared.item.Symbol.TheVariants as s
use Rattle.text_grammar.specs.declared.fault.Form.TheVariants.{Connect}
use Rattle.text_grammar.specs.declared.fault.Kind.{Kind}
use Rattle.text_grammar.specs.declared.fault.Kind.TheVariants.{Syntax, HeadTooDeep, Unsupported}
use Rattle.text_grammar.specs.Part.{Part, first, second, cons, both, either, nothing, unless, many, blames_head}
use Rattle.text_grammar.specs.Terminals.{at, deeper, is_word, is_symbol, is_name, keyword, mark, name, number}
use Rattle.text_grammar.proofs.Laws.{Step, Begins, Lives, All, Narrow, Same, Wider, both_step, both_begins, after_step, after_begins, either_step, either_begins, nothing_step, unless_step, stop_same, stop_wider, many_step, blames_step, blames_begins, begins_wider, both_lives}
use Rattle.text_grammar.proofs.Items.{word_step, mark_step, name_step, number_step, pick_step}
use Rattle.fir_ast.specs.Limits.{Limits}
use Rattle.fir_ast.specs.ExprGrammar.{expr, expr_from, reference_from}
use Rattle.fir_ast.specs.RowGrammar.{pair, sink_row, sink_marked, invalidated, row_from, port, module_head, circuit_head}
use Rattle.fir_ast.specs.Lines.{begins_line, is_else, is_line, line_word, first_word, else_word}
use Rattle.fir_ast.specs.CircuitGrammar.{Rows, Line, Nested, no_connect, goes_on_is, else_row, else_rows, and_else_rows, when_is, when_named, when_from, statement, headed, row, first_row, rows, block, opens, opened_block, else_when, else_sink, else_block, else_from, else_headed, else_line, branch, branches, make_when, opened, nested_within, port_only, no_port, is_output, is_direction, port_line, direction_is, direction_named, direction, line_from, line_headed, line, first_line, still_ports, lines_behind, lines, body, is_module, public_word, module_word, make_module, titled_module, one_module, modules, version, preamble, circuit_word, make_circuit, titled, circuit_text, circuit_within}
use Rattle.fir_ast.specs.declared.tree.Expr.{Expr}
use Rattle.fir_ast.specs.declared.tree.Expr.TheVariants as e
use Rattle.fir_read.proofs.RowLaws.{Steps}
use Rattle.fir_read.proofs.WordLaws.{or_left, or_right, or_either, line_at, begun_at, line_word_step, first_word_step, circuit_word_step, else_word_step, line_word_begins, first_word_begins, else_word_begins}
use Rattle.fir_read.proofs.LineLaws.{indented_step, indented_lives, from_step}

-- ---- what parts begin with

pub else_row_begins : (l : Limits) (c : ℕ) → Begins (else_row l c) (is_else c)
unfolding else_row
else_row_begins l c = after_begins (else_word c) (λ h. sink_row l h.0 h.1) (is_else c) (else_word_begins c)

pub else_rows_of : (l : Limits) (c : ℕ) → Begins (and_else_rows l c (else_row l c)) (is_else c)
unfolding and_else_rows
else_rows_of l c = both_begins pair (else_row l c) (else_rows l c) (is_else c) (else_row_begins l c)

pub row_begins : (l : Limits) (n : Nested) (c : ℕ) → Begins (row l n c) (is_line c)
unfolding row headed
row_begins l n c = blames_begins _ (is_line c) (after_begins (first_word c) (λ h. statement l n c h.0 h.1) (is_line c) (first_word_begins c))

first_row_begins : (l : Limits) (n : Nested) (c : ℕ) → Begins (first_row l n c) (at c)
unfolding first_row
first_row_begins l n c =
    either_begins (is_else c) (at c) _ _ (begins_wider (and_else_rows l c (else_row l c)) (is_else c) (at c) (λ x h. begun_at c (codes "else") x h) (else_rows_of l c)) (begins_wider (row l n c) (is_line c) (at c) (line_at c) (row_begins l n c))

pub rows_begins : (l : Limits) (n : Nested) (c : ℕ) → Begins (rows l n c) (at c)
unfolding rows
rows_begins l n c = both_begins _ (first_row l n c) (many (is_line c) (row l n c)) (at c) (first_row_begins l n c)

pub line_begins : (l : Limits) (n : Nested) (c : ℕ) (ports : Bool) → Begins (line l n c ports) (is_line c)
unfolding line line_headed
line_begins l n c ports = blames_begins _ (is_line c) (after_begins (first_word c) (λ h. line_from l n ports c h.0 h.1) (is_line c) (first_word_begins c))

pub no_port_begins : (p : Part Rows) (b : Item → Bool) → Begins p b → Begins (no_port p) b
unfolding no_port
no_port_begins p b g = both_begins _ p (nothing tt) b g

first_line_begins : (l : Limits) (n : Nested) (c : ℕ) → Begins (first_line l n c) (at c)
unfolding first_line
first_line_begins l n c =
    either_begins (is_else c) (at c) _ _ (begins_wider (no_port (and_else_rows l c (else_row l c))) (is_else c) (at c) (λ x h. begun_at c (codes "else") x h) (no_port_begins _ (is_else c) (else_rows_of l c)))
    (begins_wider (line l n c true) (is_line c) (at c) (line_at c) (line_begins l n c true))

pub lines_begins : (l : Limits) (n : Nested) (c : ℕ) → Begins (lines l n c) (at c)
unfolding lines
lines_begins l n c = after_begins (first_line l n c) (lines_behind l n c) (at c) (first_line_begins l n c)

module_word_begins : (c : ℕ) → Begins (module_word c) (is_module c)
unfolding module_word public_word
module_word_begins c =
    either_begins (begins_line c (codes "module")) (is_module c) _ _
    (begins_wider (line_word c (codes "module")) (begins_line c (codes "module")) (is_module c) (λ x h. or_left _ _ h) (line_word_begins c (codes "module")))
    (begins_wider (both first (line_word c (codes "public")) (keyword (codes "module"))) (begins_line c (codes "public")) (is_module c) (λ x h. or_right _ _ h)
    (both_begins first (line_word c (codes "public")) (keyword (codes "module")) (begins_line c (codes "public")) (line_word_begins c (codes "public"))))

pub one_module_begins : (l : Limits) (n : Nested) (c : ℕ) → Begins (one_module l n c) (is_module c)
unfolding one_module
one_module_begins l n c = after_begins (module_word c) (titled_module l n c) (is_module c) (module_word_begins c)

pub module_at : (c : ℕ) (x : Item) → is_module c x ≡ true → at c x ≡ true
module_at c x h = elim (or_either (begins_line c (codes "module") x) (begins_line c (codes "public") x) h) [ inl e ↦ begun_at c (codes "module") x e | inr e ↦ begun_at c (codes "public") x e ]

pub modules_begins : (l : Limits) (n : Nested) (c : ℕ) → Begins (modules l n c) (at c)
unfolding modules
modules_begins l n c = both_begins cons (one_module l n c) _ (at c) (begins_wider (one_module l n c) (is_module c) (at c) (module_at c) (one_module_begins l n c))

-- ---- steps

connect_real : Unsupported Connect ≡ Syntax → ⊥
connect_real h = absurd cc

head_real : HeadTooDeep ≡ Syntax → ⊥
head_real h = absurd cc

-- from one kind of nested `when` to another
pub record Goes (E : Kind → Type 0) (L : Type 0) (n n' : Nested) : Type 1 where
  pub goes : (c i : ℕ) (p q : Part Expr) → Step E L p q → Step E L (n c i p) (n' c i q)

module _ {E : Kind → Type 0} {L : Type 0} (l m : Limits) (b : Steps E L l m) where
  else_row_step : (c : ℕ) → Step E L (else_row l c) (else_row m c)
  unfolding else_row
  else_row_step c = after_step (else_word c) (else_word c) _ _ (else_word_step c) (λ h. b.sink_row h.0 h.1)

  else_rows_step : (c : ℕ) → Step E L (else_rows l c) (else_rows m c)
  unfolding else_rows
  else_rows_step c = many_step (is_else c) (else_row l c) (else_row m c) (else_row_step c) (else_row_begins l c) (else_row_begins m c)

  and_else_step : (c : ℕ) (p q : Part _) → Step E L p q → Step E L (and_else_rows l c p) (and_else_rows m c q)
  unfolding and_else_rows
  and_else_step c p q h = both_step pair p q (else_rows l c) (else_rows m c) h (else_rows_step c)

  opens_step : Step E L opens opens
  unfolding opens
  opens_step = both_step second (mark s.Colon) (mark s.Colon) (mark s.LineEnd) (mark s.LineEnd) (mark_step s.Colon) (mark_step s.LineEnd)

  else_sink_step : (c i : ℕ) (w : List ℕ) → Step E L (else_sink l c i w) (else_sink m c i w)
  unfolding else_sink
  else_sink_step c i w = both_step _ (sink_row l i w) (sink_row m i w) (else_rows l c) (else_rows m c) (b.sink_row i w) (else_rows_step c)

  no_port_step : (p q : Part Rows) → Step E L p q → Step E L (no_port p) (no_port q)
  unfolding no_port
  no_port_step p q h = both_step _ p q (nothing tt) (nothing tt) h (nothing_step tt)

  port_line_step : (c i : ℕ) (w n : List ℕ) → Step E L (port_line l c i w n) (port_line m c i w n)
  unfolding port_line
  port_line_step c i w n = both_step port_only (port l i (is_output w) n) (port m i (is_output w) n) (else_rows l c) (else_rows m c) (b.port i (is_output w) n) (else_rows_step c)

  direction_is_step : (c i : ℕ) (w n : List ℕ) → Step E L (direction_is l c i w n) (direction_is m c i w n)
  unfolding direction_is
  direction_is_step c i w n =
      either_step (is_symbol s.Colon) _ _ _ _ (port_line_step c i w n) (no_port_step _ _ (and_else_step c (invalidated i (e.Ident w)) (invalidated i (e.Ident w)) (b.invalidated i (e.Ident w))))

  direction_named_step : (c i : ℕ) (w n : List ℕ) → Step E L (direction_named l c i w n) (direction_named m c i w n)
  unfolding direction_named
  direction_named_step c i w n = pick_step (bytes_eq n (codes "is")) _ _ _ _ (direction_is_step c i w n) (port_line_step c i w n)

  direction_step : (c i : ℕ) (w : List ℕ) → Step E L (direction l c i w) (direction m c i w)
  unfolding direction
  direction_step c i w =
      either_step is_name _ _ _ _ (after_step name name (direction_named l c i w) (direction_named m c i w) name_step (direction_named_step c i w))
      (no_port_step _ _ (and_else_step c (sink_marked l i w) (sink_marked m i w) (b.sink_marked i w)))

  module _ (n n' : Nested) (g : Goes E L n n') where
    when_is_step : (c i : ℕ) (w v : List ℕ) → Step E L (when_is l n c i w v) (when_is m n' c i w v)
    unfolding when_is no_connect
    when_is_step c i w v =
        both_step second (unless (is_symbol s.LeftArrow) (Unsupported Connect)) (unless (is_symbol s.LeftArrow) (Unsupported Connect)) _ _ (unless_step (is_symbol s.LeftArrow) (Unsupported Connect) connect_real)
        (either_step goes_on_is _ _ _ _ (g.goes c i (reference_from l v) (reference_from m v) (b.reference_from v))
        (and_else_step c (invalidated i (e.Ident w)) (invalidated i (e.Ident w)) (b.invalidated i (e.Ident w))))

    when_named_step : (c i : ℕ) (w v : List ℕ) → Step E L (when_named l n c i w v) (when_named m n' c i w v)
    unfolding when_named
    when_named_step c i w v = pick_step (bytes_eq v (codes "is")) _ _ _ _ (when_is_step c i w v) (g.goes c i (expr_from l v) (expr_from m v) (b.expr_from v))

    when_from_step : (c i : ℕ) (w : List ℕ) → Step E L (when_from l n c i w) (when_from m n' c i w)
    unfolding when_from
    when_from_step c i w =
        either_step is_name _ _ _ _ (after_step name name (when_named l n c i w) (when_named m n' c i w) name_step (when_named_step c i w))
        (and_else_step c (sink_marked l i w) (sink_marked m i w) (b.sink_marked i w))

    statement_step : (c i : ℕ) (w : List ℕ) → Step E L (statement l n c i w) (statement m n' c i w)
    unfolding statement
    statement_step c i w = pick_step (bytes_eq w (codes "when")) _ _ _ _ (when_from_step c i w) (and_else_step c (row_from l c i w) (row_from m c i w) (b.row_from c i w))

    row_step : (c : ℕ) → Step E L (row l n c) (row m n' c)
    unfolding row headed
    row_step c = blames_step _ _ b.deep (after_step (first_word c) (first_word c) (λ h. statement l n c h.0 h.1) (λ h. statement m n' c h.0 h.1) (first_word_step c) (λ h. statement_step c h.0 h.1))

    first_row_step : (c : ℕ) → Step E L (first_row l n c) (first_row m n' c)
    unfolding first_row
    first_row_step c = either_step (is_else c) _ _ _ _ (and_else_step c (else_row l c) (else_row m c) (else_row_step c)) (row_step c)

    rows_step : (c : ℕ) → Step E L (rows l n c) (rows m n' c)
    unfolding rows
    rows_step c = both_step _ (first_row l n c) (first_row m n' c) _ _ (first_row_step c) (many_step (is_line c) (row l n c) (row m n' c) (row_step c) (row_begins l n c) (row_begins m n' c))

    block_step : (c : ℕ) → Step E L (block l n c) (block m n' c)
    unfolding block
    block_step c = indented_step c (rows l n) (rows m n') rows_step (rows_begins l n) (rows_begins m n')

    opened_block_step : (c : ℕ) → Step E L (opened_block l n c) (opened_block m n' c)
    unfolding opened_block
    opened_block_step c = both_step second opens opens (block l n c) (block m n' c) opens_step (block_step c)

    else_when_step : (c i : ℕ) → Step E L (else_when l n c i) (else_when m n' c i)
    unfolding else_when
    else_when_step c i = both_step _ (keyword (codes "when")) (keyword (codes "when")) _ _ (word_step (codes "when") refl) (g.goes c i (expr l) (expr m) b.expr)

    else_from_step : (c i : ℕ) (w : List ℕ) → Step E L (else_from l n c i w) (else_from m n' c i w)
    unfolding else_from else_block
    else_from_step c i w =
        either_step (is_symbol s.Colon) _ _ _ _ (both_step pair (opened_block l n c) (opened_block m n' c) (else_rows l c) (else_rows m c) (opened_block_step c) (else_rows_step c))
        (either_step (is_word (codes "when")) _ _ _ _ (else_when_step c i) (else_sink_step c i w))

    else_line_step : (c : ℕ) → Step E L (else_line l n c) (else_line m n' c)
    unfolding else_line else_headed
    else_line_step c = blames_step _ _ b.deep (after_step (else_word c) (else_word c) (λ h. else_from l n c h.0 h.1) (λ h. else_from m n' c h.0 h.1) (else_word_step c) (λ h. else_from_step c h.0 h.1))

    branch_step : (c : ℕ) → Step E L (branch l n c) (branch m n' c)
    unfolding branch
    branch_step c = either_step (is_else c) _ _ _ _ (else_line_step c) (nothing_step ([], []))

    branches_step : (c : ℕ) → Step E L (branches l n c) (branches m n' c)
    unfolding branches
    branches_step c = both_step pair (opened_block l n c) (opened_block m n' c) (branch l n c) (branch m n' c) (opened_block_step c) (branch_step c)

    pub opened_step : Goes E L (opened l n) (opened m n')
    unfolding opened
    opened_step = record {
      goes = λ c i p q h. both_step (make_when i) p q (branches l n c) (branches m n' c) h (branches_step c);
    }

    line_from_step : (ports : Bool) (c i : ℕ) (w : List ℕ) → Step E L (line_from l n ports c i w) (line_from m n' ports c i w)
    unfolding line_from
    line_from_step ports c i w = pick_step (ports && is_direction w) _ _ _ _ (direction_step c i w) (no_port_step _ _ (statement_step c i w))

    line_step : (c : ℕ) (ports : Bool) → Step E L (line l n c ports) (line m n' c ports)
    unfolding line line_headed
    line_step c ports =
        blames_step _ _ b.deep (after_step (first_word c) (first_word c) (λ h. line_from l n ports c h.0 h.1) (λ h. line_from m n' ports c h.0 h.1) (first_word_step c) (λ h. line_from_step ports c h.0 h.1))

    first_line_step : (c : ℕ) → Step E L (first_line l n c) (first_line m n' c)
    unfolding first_line
    first_line_step c = either_step (is_else c) _ _ _ _ (no_port_step _ _ (and_else_step c (else_row l c) (else_row m c) (else_row_step c))) (line_step c true)

    lines_behind_step : (c : ℕ) (v : Line) → Step E L (lines_behind l n c v) (lines_behind m n' c v)
    unfolding lines_behind
    lines_behind_step c v = both_step _ _ _ (nothing tt) (nothing tt) (from_step (is_line c) (line l n c) (line m n' c) still_ports (line_step c) (line_begins l n c) (still_ports true v)) (nothing_step tt)

    lines_step : (c : ℕ) → Step E L (lines l n c) (lines m n' c)
    unfolding lines
    lines_step c = after_step (first_line l n c) (first_line m n' c) (lines_behind l n c) (lines_behind m n' c) (first_line_step c) (lines_behind_step c)

    body_step : (c : ℕ) → Step E L (body l n c) (body m n' c)
    unfolding body
    body_step c = either_step (deeper c) _ _ _ _ (indented_step c (lines l n) (lines m n') lines_step (lines_begins l n) (lines_begins m n')) (nothing_step ([], []))

    titled_module_step : (c i : ℕ) → Step E L (titled_module l n c i) (titled_module m n' c i)
    unfolding titled_module
    titled_module_step c i = both_step (make_module i) module_head module_head (body l n c) (body m n' c) b.module_head (body_step c)

    one_module_step : (c : ℕ) → Step E L (one_module l n c) (one_module m n' c)
    unfolding one_module module_word public_word
    one_module_step c =
        after_step (module_word c) (module_word c) (titled_module l n c) (titled_module m n' c)
        (either_step (begins_line c (codes "module")) _ _ _ _ (line_word_step c (codes "module") refl) (both_step first (line_word c (codes "public")) (line_word c (codes "public")) (keyword (codes "module")) (keyword (codes "module")) (line_word_step c (codes "public") refl) (word_step (codes "module") refl)))
        (titled_module_step c)

    modules_step : (c : ℕ) → Step E L (modules l n c) (modules m n' c)
    unfolding modules
    modules_step c = both_step cons (one_module l n c) (one_module m n' c) _ _ (one_module_step c) (many_step (is_module c) (one_module l n c) (one_module m n' c) (one_module_step c) (one_module_begins l n c) (one_module_begins m n' c))

    titled_step : (p : ℕ × ℕ) → Step E L (titled l n p) (titled m n' p)
    unfolding titled
    titled_step p = both_step (make_circuit p.0) circuit_head circuit_head _ _ b.circuit_head (indented_step p.1 (modules l n) (modules m n') modules_step (modules_begins l n) (modules_begins m n'))

    number_and : {A : Type 0} (p : Part A) → Step E L p p → Step E L (both second number p) (both second number p)
    number_and p h = both_step second number number p p number_step h

    version_step : Step E L version version
    unfolding version
    version_step =
        both_step second (keyword (codes "FIRRTL")) (keyword (codes "FIRRTL")) _ _ (word_step (codes "FIRRTL") refl)
        (both_step second (keyword (codes "version")) (keyword (codes "version")) _ _ (word_step (codes "version") refl)
        (number_and _ (both_step second (mark s.Dot) (mark s.Dot) _ _ (mark_step s.Dot) (number_and _ (both_step second (mark s.Dot) (mark s.Dot) _ _ (mark_step s.Dot) (number_and (mark s.LineEnd) (mark_step s.LineEnd)))))))

    preamble_step : Step E L preamble preamble
    unfolding preamble
    preamble_step = either_step (is_word (codes "FIRRTL")) version version (nothing tt) (nothing tt) version_step (nothing_step tt)

    pub circuit_step : Step E L (blames_head (circuit_text l n)) (blames_head (circuit_text m n'))
    unfolding circuit_text
    circuit_step = blames_step _ _ b.deep (both_step second preamble preamble _ _ preamble_step (after_step circuit_word circuit_word (titled l n) (titled m n') circuit_word_step titled_step))

-- ---- to the same limits

same_nested : (l : Limits) → Steps All ⊥ l l → (d : ℕ) → Goes All ⊥ (nested_within l d) (nested_within l d)
unfolding nested_within
same_nested l b zero = record { goes = λ c i p q h. stop_same HeadTooDeep head_real }
same_nested l b (suc d) = record { goes = (opened_step l l b (nested_within l d) (nested_within l d) (same_nested l b d)).goes }

pub same_circuit : (l : Limits) (d : ℕ) → Steps All ⊥ l l → Same (circuit_within l d)
unfolding circuit_within
same_circuit l d b = circuit_step l l b (nested_within l d) (nested_within l d) (same_nested l b d)

-- ---- to wider limits

either_lives : {A : Type 0} (b : Item → Bool) (P Q : Part A) → Lives P → Lives (either b P Q)
unfolding either
either_lives b P Q h = record { text = h.text; value = h.value; spelled = inl h.spelled }

pub or_nothing_lives : {A : Type 0} (b : Item → Bool) (P : Part A) (none : A) → Lives (either b P (nothing none))
unfolding either nothing
or_nothing_lives b P none = record { text = []; value = none; spelled = inr (refl, refl) }

pub many_lives : {A : Type 0} (b : Item → Bool) (P : Part A) → Lives (many b P)
unfolding many
many_lives b P = record { text = []; value = []; spelled = refl }

module _ (l m : Limits) (b : Steps Narrow (Unit {0}) l m) where
  rows_lives : (n : Nested) (c : ℕ) → Lives (rows m n c)
  unfolding rows first_row
  rows_lives n c = both_lives _ (first_row m n c) _ (either_lives (is_else c) _ (row m n c) ((and_else_step l m b c (else_row l c) (else_row m c) (else_row_step l m b c)).lives tt)) (many_lives (is_line c) (row m n c))

  pub opened_block_lives : (n : Nested) (c : ℕ) → Lives (opened_block m n c)
  unfolding opened_block block
  opened_block_lives n c = both_lives second opens _ ((opens_step l m b).lives tt) (indented_lives c (rows m n) (rows_lives n (suc c)) (rows_begins m n (suc c)))

  pub opened_lives : (n : Nested) (c i : ℕ) (q : Part Expr) → Lives q → Lives (opened m n c i q)
  unfolding opened branches branch
  opened_lives n c i q h = both_lives (make_when i) q _ h (both_lives pair _ _ (opened_block_lives n c) (or_nothing_lives (is_else c) (else_line m n c) ([], [])))

  wider_nested : (d d' : ℕ) → d < d' → Goes Narrow (Unit {0}) (nested_within l d) (nested_within m d')
  unfolding nested_within
  wider_nested d zero lt = absurd (omega arith)
  wider_nested zero (suc d') lt = record { goes = λ c i p q h. stop_wider HeadTooDeep (opened m (nested_within m d') c i q) head_real (opened_lives (nested_within m d') c i q (h.lives tt)) }
  wider_nested (suc d) (suc d') lt = record { goes = (opened_step l m b (nested_within l d) (nested_within m d') (wider_nested d d' (omega arith))).goes }

  pub wider_circuit : (d d' : ℕ) → d < d' → Wider (circuit_within l d) (circuit_within m d')
  unfolding circuit_within
  wider_circuit d d' lt = circuit_step l m b (nested_within l d) (nested_within m d') (wider_nested d d' lt)
