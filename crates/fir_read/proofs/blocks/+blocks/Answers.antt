use Rattle.std.proofs.Common.{arith, sym, ap, ◌∙◌, ◌-◌, ◌++◌, ◌∷◌, List}
use Rattle.fir_ast.specs.declared.tree.Stmt.{Stmt}
use Rattle.fir_ast.specs.Limits.{limits}
use Rattle.fir_ast.specs.Lines as n
use Rattle.fir_ast.specs.CircuitGrammar as g
use Rattle.fir_ast.specs.CircuitGrammar.{nested_within}
use Rattle.fir_read.proofs.LineReading.{rows_begun, rows_go_on, rows_break_off, rows_done, rows_out}
use Rattle.fir_read.proofs.blocks.+blocks.Goals as goal

pub more_rows-loop-turn-init : goal.more_rows-loop-turn-init
more_rows-loop-turn-init t c = rows_begun (n.is_line c.args.column) (g.row limits (nested_within limits c.args.depth) c.args.column) c.add_rows.new.found.items c.args.first c.left-turn-end.result c.args.tokens.now (c.in_ok-add_rows.ensures ∙ ap (λ (z : List Stmt). z ++ c.args.first.0 ∷ c.args.first.1) c.new-found.ensures.items) c.left-turn-end.ensures

pub more_rows-returns-then-not-begins_row : goal.more_rows-returns-then-not-begins_row
more_rows-returns-then-not-begins_row t c = rw c.from_vec.ensures (rows_done (n.is_line c.args.column) (g.row limits (nested_within limits c.args.depth) c.args.column) c.loop-turn.found.items (c.left-turn-end.result - c.loop-turn._turn) c.loop-turn.tokens _ (sym c.begins_row.ensures ∙ c.if-not-begins_row.true) c.loop-turn.invariant)

pub more_rows-returns-in-Err : goal.more_rows-returns-in-Err
more_rows-returns-in-Err t c = rows_break_off (n.is_line c.args.column) (g.row limits (nested_within limits c.args.depth) c.args.column) c.loop-turn.found.items c.left-turn-end.result c.loop-turn._turn c.loop-turn.tokens _ c.in-Err.e c.loop-turn-test.true (sym c.begins_row.ensures ∙ c.if-not-begins_row.false) c.in-Err.ensures c.loop-turn.invariant

pub more_rows-loop-turn-preserved : goal.more_rows-loop-turn-preserved
more_rows-loop-turn-preserved t c = rows_go_on (n.is_line c.args.column) (g.row limits (nested_within limits c.args.depth) c.args.column) c.loop-turn.found.items c.add_rows-in-loop-turn.new.found.items c.in-Ok.next c.left-turn-end.result c.loop-turn._turn c.loop-turn.tokens c.row.new.tokens _ c.in_ok-add_rows-2.ensures c.loop-turn-test.true (sym c.begins_row.ensures ∙ c.if-not-begins_row.false) c.in-Ok.ensures c.loop-turn.invariant

pub more_rows-returns : goal.more_rows-returns
more_rows-returns t c = rw c.from_vec-2.ensures (rows_out (n.is_line c.args.column) (g.row limits (nested_within limits c.args.depth) c.args.column) c.loop-turn.found.items c.left-turn-end.result c.loop-turn._turn c.loop-turn.tokens _ (omega arith) c.loop-turn.invariant)
