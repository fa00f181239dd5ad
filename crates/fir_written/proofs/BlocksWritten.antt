-- The blocks, modules and circuits that a text spells are written.
use Rattle.std.proofs.Common.{◌≡◌, ◌≤◌, ℕ, zero, suc, Bool, true, List, [], ◌∷◌, sym, ◌∙◌, subst, arith}
use Rattle.std.specs.Prelude.{◌&&◌, max, nat_lt, nat_le, length, Some, None, codes}
use Rattle.std.specs.List.{list_all}
use Rattle.std.specs.Str.{bytes_eq}
use Rattle.std.proofs.lemmas.Bool.{and_from, le-leb, lt-ltb}
use Rattle.std.proofs.Math.Nat.{max-le}
use Rattle.text_grammar.specs.declared.item.Item.{Item}
use Rattle.text_grammar.specs.declared.item.Symbol.TheVariants as s
use Rattle.text_grammar.specs.declared.fault.Kind.TheVariants.{HeadTooDeep}
use Rattle.text_grammar.specs.Part.{Part, cons, after, nothing}
use Rattle.text_grammar.specs.Terminals.{is_word, is_symbol, is_name, keyword, name, deeper}
use Rattle.fir_ast.specs.declared.tree.Expr.{Expr}
use Rattle.fir_ast.specs.declared.tree.Expr.TheVariants as e
use Rattle.fir_ast.specs.declared.tree.Stmt.{Stmt}
use Rattle.fir_ast.specs.declared.tree.Stmt.TheVariants as stmt
use Rattle.fir_ast.specs.declared.tree.Module.{Module}
use Rattle.fir_ast.specs.declared.tree.Circuit.{Circuit}
use Rattle.fir_ast.specs.Limits.{Limits, limits}
use Rattle.fir_ast.specs.ExprGrammar.{expr, expr_from, reference_from}
use Rattle.fir_ast.specs.RowGrammar.{pair, sink_row, port, module_head, circuit_head}
use Rattle.fir_ast.specs.Lines.{is_else, is_line, first_word, else_word}
use Rattle.fir_ast.specs.CircuitGrammar.{block_limit, else_row, else_rows, Rows, and_else_rows, Nested, no_connect, goes_on_is, when_is, when_named, when_from, statement, headed, row, first_row, all_rows, rows_with, rows, block, opens, opened_block, Branch, one_when, else_when, no_branch, else_sink, else_block, else_from, else_headed, else_line, branch, branches, make_when, opened, nested_within, Line, port_only, rows_only, no_port, is_output, is_direction, port_line, direction_is, direction_named, direction, line_from, line_headed, line, first_line, still_ports, Body, with_line, all_lines, lines_behind, lines, body, is_module, module_word, make_module, titled_module, one_module, modules, preamble, circuit_word, make_circuit, titled, circuit_text, circuit_within, circuit}
use Rattle.fir_print_laws.specs.Standing.{is_word_text}
use Rattle.fir_written.specs.Written.{is_written_expr, is_written_stmt, block_depth, depth_of_all, is_written_port, is_written_module, is_written, IsWritten}
use Rattle.fir_written.proofs.Unrolled.{written_when, depth_when}
use Rattle.fir_written.proofs.Gives.{Fine, Gives, Any, any, Passes, Headed, Each, each_both, each_to, each_passes, gives_to, gives_both, gives_left, gives_right, gives_second, gives_after, gives_either, gives_pick, gives_nothing, gives_stop, gives_blames, gives_indented, gives_many, gives_from, gives_name, gives_leading}
use Rattle.fir_written.proofs.ExprsWritten.{gives_expr, gives_expr_from, gives_ref_expr}
use Rattle.fir_written.proofs.RowsWritten.{Plain, word_sink, gives_invalidated, gives_sink_row, gives_sink_marked, gives_row_from, gives_port, gives_module_head, gives_circuit_head}

-- ---- statements within so many nested blocks

pub record Within (d : ℕ) (x : Stmt) : Type 0 where
  pub passes : is_written_stmt x ≡ true
  pub deep : block_depth x ≤ d

plain_within : (d : ℕ) (x : Stmt) → Plain x → Within d x
plain_within d x h = record { passes = h.passes; deep = (let flat = h.flat in omega (arith, flat)) }

wider : (d : ℕ) (x : Stmt) → Within d x → Within (suc d) x
wider d x h = record { passes = h.passes; deep = (let deep = h.deep in omega (arith, deep)) }

all_pass : (d : ℕ) (xs : List Stmt) → Each (Within d) xs → list_all is_written_stmt xs ≡ true
all_pass d xs h = each_passes is_written_stmt xs (each_to (Within d) (Passes is_written_stmt) (λ x k. k.passes) xs h)

all_deep : (d : ℕ) (xs : List Stmt) → Each (Within d) xs → depth_of_all xs ≤ d
all_deep d [] h = omega arith
all_deep d (x ∷ xs) h = max-le h.0.deep (all_deep d xs h.1)

when_within : (d at : ℕ) (cond : Expr) (taken other : List Stmt) → is_written_expr cond ≡ true → Each (Within d) taken → Each (Within d) other → Within (suc d) (stmt.When at cond taken other)
when_within d at cond taken other c t o =
    let deep = depth_when at cond taken other in
    let both : max (depth_of_all taken) (depth_of_all other) ≤ d = max-le (all_deep d taken t) (all_deep d other o) in
    record {
      passes = written_when at cond taken other ∙ and_from (is_written_expr cond) _ c (and_from (list_all is_written_stmt taken) (list_all is_written_stmt other) (all_pass d taken t) (all_pass d other o));
      deep = subst (λ (n : ℕ). n ≤ suc d) (sym deep) (omega (arith, both));
    }

-- a statement with the rows behind it, the block of an `else` with them
abbrev RowsWithin : ℕ → Rows → Type 0
RowsWithin d r = Within d r.0 × Each (Within d) r.1

abbrev BranchWithin : ℕ → Branch → Type 0
BranchWithin d b = Each (Within d) b.0 × Each (Within d) b.1

all_rows_within : (d : ℕ) (rs : List Rows) → Each (RowsWithin d) rs → Each (Within d) (all_rows rs)
all_rows_within d [] h = tt
all_rows_within d (r ∷ more) h = (h.0.0, each_both (Within d) r.1 (all_rows more) h.0.1 (all_rows_within d more h.1))

-- a `when` from its condition on, which is as deep as this
abbrev NestedWithin : ℕ → Nested → Type 1
NestedWithin d nested = (column at : ℕ) (cond : Part Expr) → Gives (Passes is_written_expr) cond → Gives (RowsWithin d) (nested column at cond)

-- ports and statements
abbrev BodyWithin : ℕ → Body → Type 0
BodyWithin d b = Each (Passes is_written_port) b.0 × Each (Within d) b.1

abbrev LineWithin : ℕ → Line → Type 0
LineWithin d (Some p, more) = Passes is_written_port p × Each (Within d) more
LineWithin d (None, more) = Each (Within d) more

with_line_within : (d : ℕ) (v : Line) (b : Body) → LineWithin d v → BodyWithin d b → BodyWithin d (with_line v b)
with_line_within d (Some p, more) b h k = ((h.0, k.0), each_both (Within d) more b.1 h.1 k.1)
with_line_within d (None, more) b h k = (k.0, each_both (Within d) more b.1 h k.1)

all_lines_within : (d : ℕ) (vs : List Line) → Each (LineWithin d) vs → BodyWithin d (all_lines vs)
all_lines_within d [] h = (tt, tt)
all_lines_within d (v ∷ more) h = with_line_within d v (all_lines more) h.0 (all_lines_within d more h.1)

-- at least one
abbrev AreModules : List Module → Type 0
AreModules ms = (nat_lt 0 (length ms) ≡ true) × Each (Passes is_written_module) ms

module _ (l : Limits) (le : l.suffixes ≤ limits.suffixes) where
  gives_plain : (d : ℕ) (p : Part Stmt) → Gives Plain p → Gives (Within d) p
  gives_plain d p h = gives_to Plain (Within d) p (plain_within d) h

  else_plain : (column : ℕ) → Gives Plain (else_row l column)
  unfolding else_row
  else_plain column = gives_after Headed Plain (else_word column) _ (gives_leading (is_else column)) (λ h named. gives_sink_row l le h.0 h.1 named)

  gives_else_row : (d column : ℕ) → Gives (Within d) (else_row l column)
  gives_else_row d column = gives_plain d (else_row l column) (else_plain column)

  gives_else_rows : (d column : ℕ) → Gives (Each (Within d)) (else_rows l column)
  unfolding else_rows
  gives_else_rows d column = gives_many (Within d) (else_row l column) (gives_else_row d column) (is_else column)

  gives_and_else : (d column : ℕ) (p : Part Stmt) → Gives Plain p → Gives (RowsWithin d) (and_else_rows l column p)
  unfolding and_else_rows
  gives_and_else d column p h = gives_both (Within d) (Each (Within d)) (RowsWithin d) pair p (else_rows l column) (gives_plain d p h) (gives_else_rows d column) (λ x more a b. (a, b))

  module _ (d : ℕ) (nested : Nested) (g : NestedWithin d nested) where
    gives_when_is : (column at : ℕ) (w n : List ℕ) → is_word_text w ≡ true → is_word_text n ≡ true → Gives (RowsWithin d) (when_is l nested column at w n)
    unfolding when_is
    gives_when_is column at w n a b =
        gives_second (RowsWithin d) no_connect _
        (gives_either (RowsWithin d) goes_on_is _ _ (g column at (reference_from l n) (gives_ref_expr l le n b)) (gives_and_else d column _ (gives_invalidated at (e.Ident w) (word_sink w a))))

    gives_when_named : (column at : ℕ) (w n : List ℕ) → is_word_text w ≡ true → is_word_text n ≡ true → Gives (RowsWithin d) (when_named l nested column at w n)
    unfolding when_named
    gives_when_named column at w n a b = gives_pick (RowsWithin d) (bytes_eq n (codes "is")) _ _ (gives_when_is column at w n a b) (g column at (expr_from l n) (gives_expr_from l le n b))

    gives_when_from : (column at : ℕ) (w : List ℕ) → is_word_text w ≡ true → Gives (RowsWithin d) (when_from l nested column at w)
    unfolding when_from
    gives_when_from column at w a =
        gives_either (RowsWithin d) is_name _ _ (gives_after (Passes is_word_text) (RowsWithin d) name _ gives_name (λ n b. gives_when_named column at w n a b)) (gives_and_else d column _ (gives_sink_marked l le at w a))

    gives_statement : (column at : ℕ) (w : List ℕ) → is_word_text w ≡ true → Gives (RowsWithin d) (statement l nested column at w)
    unfolding statement
    gives_statement column at w a = gives_pick (RowsWithin d) (bytes_eq w (codes "when")) _ _ (gives_when_from column at w a) (gives_and_else d column _ (gives_row_from l le column at w a))

    gives_headed : (column : ℕ) → Gives (RowsWithin d) (headed l nested column)
    unfolding headed
    gives_headed column = gives_after Headed (RowsWithin d) (first_word column) _ (gives_leading (is_line column)) (λ h named. gives_statement column h.0 h.1 named)

    gives_row : (column : ℕ) → Gives (RowsWithin d) (row l nested column)
    unfolding row
    gives_row column = gives_blames (RowsWithin d) _ (gives_headed column)

    gives_first_row : (column : ℕ) → Gives (RowsWithin d) (first_row l nested column)
    unfolding first_row
    gives_first_row column = gives_either (RowsWithin d) (is_else column) _ _ (gives_and_else d column _ (else_plain column)) (gives_row column)

    gives_rows : (column : ℕ) → Gives (Each (Within d)) (rows l nested column)
    unfolding rows
    gives_rows column = gives_both (RowsWithin d) (Each (RowsWithin d)) (Each (Within d)) rows_with (first_row l nested column) _ (gives_first_row column) (gives_many (RowsWithin d) (row l nested column) (gives_row column) (is_line column)) (λ r more a b. all_rows_within d (r ∷ more) (a, b))

    gives_block : (column : ℕ) → Gives (Each (Within d)) (block l nested column)
    unfolding block
    gives_block column = gives_indented (Each (Within d)) column (rows l nested) gives_rows

    gives_opened_block : (column : ℕ) → Gives (Each (Within d)) (opened_block l nested column)
    unfolding opened_block
    gives_opened_block column = gives_second (Each (Within d)) opens (block l nested column) (gives_block column)

    -- ---- `else`

    gives_else_when : (column at : ℕ) → Gives (BranchWithin d) (else_when l nested column at)
    unfolding else_when
    gives_else_when column at = gives_right (RowsWithin d) (BranchWithin d) (λ _ r. one_when r) (keyword (codes "when")) _ (g column at (expr l) (gives_expr l le)) (λ u r h. ((h.0, tt), h.1))

    gives_else_sink : (column at : ℕ) (w : List ℕ) → is_word_text w ≡ true → Gives (BranchWithin d) (else_sink l column at w)
    unfolding else_sink
    gives_else_sink column at w a = gives_both (Within d) (Each (Within d)) (BranchWithin d) (λ r more. no_branch (r, more)) (sink_row l at w) (else_rows l column) (gives_plain d _ (gives_sink_row l le at w a)) (gives_else_rows d column)
        (λ r more h k. (tt, (h, k)))

    gives_else_block : (column : ℕ) → Gives (BranchWithin d) (else_block l nested column)
    unfolding else_block
    gives_else_block column = gives_both (Each (Within d)) (Each (Within d)) (BranchWithin d) pair (opened_block l nested column) (else_rows l column) (gives_opened_block column) (gives_else_rows d column) (λ x more a b. (a, b))

    gives_else_from : (column at : ℕ) (w : List ℕ) → is_word_text w ≡ true → Gives (BranchWithin d) (else_from l nested column at w)
    unfolding else_from
    gives_else_from column at w a = gives_either (BranchWithin d) (is_symbol s.Colon) _ _ (gives_else_block column) (gives_either (BranchWithin d) (is_word (codes "when")) _ _ (gives_else_when column at) (gives_else_sink column at w a))

    gives_else_headed : (column : ℕ) → Gives (BranchWithin d) (else_headed l nested column)
    unfolding else_headed
    gives_else_headed column = gives_after Headed (BranchWithin d) (else_word column) _ (gives_leading (is_else column)) (λ h named. gives_else_from column h.0 h.1 named)

    gives_branch : (column : ℕ) → Gives (BranchWithin d) (branch l nested column)
    unfolding branch else_line
    gives_branch column = gives_either (BranchWithin d) (is_else column) _ _ (gives_blames (BranchWithin d) _ (gives_else_headed column)) (gives_nothing (BranchWithin d) ([], []) (tt, tt))

    abbrev BranchesWithin : List Stmt × Branch → Type 0
    BranchesWithin b = Each (Within d) b.0 × BranchWithin d b.1

    gives_branches : (column : ℕ) → Gives BranchesWithin (branches l nested column)
    unfolding branches
    gives_branches column = gives_both (Each (Within d)) (BranchWithin d) BranchesWithin pair (opened_block l nested column) (branch l nested column) (gives_opened_block column) (gives_branch column) (λ x b h k. (h, k))

    opened_within : NestedWithin (suc d) (opened l nested)
    unfolding opened
    opened_within column at cond h = gives_both (Passes is_written_expr) BranchesWithin (RowsWithin (suc d)) (make_when at) cond (branches l nested column) h (gives_branches column)
        (λ x b c k. (when_within d at x b.0 b.1.0 c k.0 k.1.0, each_to (Within d) (Within (suc d)) (wider d) b.1.1 k.1.1))

    -- ---- modules

    gives_no_port : (p : Part Rows) → Gives (RowsWithin d) p → Gives (LineWithin d) (no_port p)
    unfolding no_port
    gives_no_port p h = gives_left (RowsWithin d) (LineWithin d) (λ r (u : Unit {0}). rows_only r) p (nothing tt) h (λ r u k. (k.0, k.1))

    gives_port_line : (column at : ℕ) (w n : List ℕ) → is_word_text n ≡ true → Gives (LineWithin d) (port_line l column at w n)
    unfolding port_line
    gives_port_line column at w n b = gives_both (Passes is_written_port) (Each (Within d)) (LineWithin d) port_only (port l at (is_output w) n) (else_rows l column) (gives_port l le at (is_output w) n b) (gives_else_rows d column) (λ p more h k. (h, k))

    gives_direction_is : (column at : ℕ) (w n : List ℕ) → is_word_text w ≡ true → is_word_text n ≡ true → Gives (LineWithin d) (direction_is l column at w n)
    unfolding direction_is
    gives_direction_is column at w n a b =
        gives_either (LineWithin d) (is_symbol s.Colon) _ _ (gives_port_line column at w n b) (gives_no_port _ (gives_and_else d column _ (gives_invalidated at (e.Ident w) (word_sink w a))))

    gives_direction_named : (column at : ℕ) (w n : List ℕ) → is_word_text w ≡ true → is_word_text n ≡ true → Gives (LineWithin d) (direction_named l column at w n)
    unfolding direction_named
    gives_direction_named column at w n a b = gives_pick (LineWithin d) (bytes_eq n (codes "is")) _ _ (gives_direction_is column at w n a b) (gives_port_line column at w n b)

    gives_direction : (column at : ℕ) (w : List ℕ) → is_word_text w ≡ true → Gives (LineWithin d) (direction l column at w)
    unfolding direction
    gives_direction column at w a =
        gives_either (LineWithin d) is_name _ _ (gives_after (Passes is_word_text) (LineWithin d) name _ gives_name (λ n b. gives_direction_named column at w n a b)) (gives_no_port _ (gives_and_else d column _ (gives_sink_marked l le at w a)))

    gives_line : (column : ℕ) (ports : Bool) → Gives (LineWithin d) (line l nested column ports)
    unfolding line line_headed line_from
    gives_line column ports = gives_blames (LineWithin d) _ (gives_after Headed (LineWithin d) (first_word column) _ (gives_leading (is_line column))
        (λ h named. gives_pick (LineWithin d) (ports && is_direction h.1) _ _ (gives_direction column h.0 h.1 named) (gives_no_port _ (gives_statement column h.0 h.1 named))))

    gives_first_line : (column : ℕ) → Gives (LineWithin d) (first_line l nested column)
    unfolding first_line
    gives_first_line column = gives_either (LineWithin d) (is_else column) _ _ (gives_no_port _ (gives_and_else d column _ (else_plain column))) (gives_line column true)

    gives_lines_behind : (column : ℕ) (v : Line) → LineWithin d v → Gives (BodyWithin d) (lines_behind l nested column v)
    unfolding lines_behind
    gives_lines_behind column v h = gives_left (Each (LineWithin d)) (BodyWithin d) (λ more (u : Unit {0}). all_lines (v ∷ more)) _ (nothing tt)
        (gives_from (LineWithin d) (line l nested column) still_ports (λ ports. gives_line column ports) (is_line column) (still_ports true v)) (λ more u k. all_lines_within d (v ∷ more) (h, k))

    gives_body : (column : ℕ) → Gives (BodyWithin d) (body l nested column)
    unfolding body lines
    gives_body column = gives_either (BodyWithin d) (deeper column) _ _
        (gives_indented (BodyWithin d) column (lines l nested) (λ inner. gives_after (LineWithin d) (BodyWithin d) (first_line l nested inner) _ (gives_first_line inner) (λ v h. gives_lines_behind inner v h)))
        (gives_nothing (BodyWithin d) ([], []) (tt, tt))

    titled_module_written : d ≤ block_limit → (column at : ℕ) → Gives (Passes is_written_module) (titled_module l nested column at)
    unfolding titled_module
    titled_module_written limited column at = gives_both (Passes is_word_text) (BodyWithin d) (Passes is_written_module) (make_module at) module_head (body l nested column) gives_module_head (gives_body column) (λ w b a h. module_passes w b a h)
      where
        module_passes : (w : List ℕ) (b : Body) → is_word_text w ≡ true → BodyWithin d b → is_written_module (make_module at w b) ≡ true
        module_passes w b a h =
            let deep : depth_of_all b.1 ≤ block_limit = (let one = all_deep d b.1 h.1 in omega (arith, one, limited)) in
            and_from (is_word_text w) _ a
            (and_from (list_all is_written_port b.0) _ (each_passes is_written_port b.0 h.0)
            (and_from (list_all is_written_stmt b.1) (nat_le (depth_of_all b.1) block_limit) (all_pass d b.1 h.1) (le-leb (depth_of_all b.1) block_limit deep)))

    gives_modules : d ≤ block_limit → (column : ℕ) → Gives AreModules (modules l nested column)
    unfolding modules one_module
    gives_modules limited column =
        gives_both (Passes is_written_module) (Each (Passes is_written_module)) AreModules cons _ _ (gives_one column) (gives_many (Passes is_written_module) _ (gives_one column) (is_module column)) (λ m more a b. (lt-ltb 0 (length (m ∷ more)) (omega arith), (a, b)))
      where
        gives_one : (column : ℕ) → Gives (Passes is_written_module) (after (module_word column) (titled_module l nested column))
        gives_one column = gives_after Any (Passes is_written_module) (module_word column) (titled_module l nested column) (any (module_word column)) (λ at u. titled_module_written limited column at)

    gives_circuit : d ≤ block_limit → Gives IsWritten (circuit_text l nested)
    unfolding circuit_text titled is_written
    gives_circuit limited = gives_second IsWritten preamble _ (gives_after Any IsWritten circuit_word (titled l nested) (any circuit_word)
        (λ p u. gives_both (Passes is_word_text) AreModules IsWritten (make_circuit p.0) circuit_head _ gives_circuit_head (gives_indented AreModules p.1 (modules l nested) (gives_modules limited))
        (λ w ms a h. and_from (is_word_text w) _ a (and_from (nat_lt 0 (length ms)) (list_all is_written_module ms) h.0 (each_passes is_written_module ms h.1)))))

  -- ---- within so many nested blocks

  nested_written : (d : ℕ) → NestedWithin d (nested_within l d)
  unfolding nested_within
  nested_written zero column at cond h = gives_stop (RowsWithin 0) HeadTooDeep
  nested_written (suc d) column at cond h = opened_within d (nested_within l d) (nested_written d) column at cond h

  pub gives_within : (d : ℕ) → d ≤ block_limit → Gives IsWritten (circuit_within l d)
  unfolding circuit_within
  gives_within d limited = gives_blames IsWritten _ (gives_circuit d (nested_within l d) (nested_written d) limited)

-- a circuit whose items are fine is written
pub circuit_written : (items : List Item) (c : Circuit) → Fine items → circuit.spells items c → IsWritten c
circuit_written items c fine h = (gives_within limits (let e : limits.suffixes ≤ limits.suffixes = omega arith in e) block_limit (omega arith)).gives items c fine h
