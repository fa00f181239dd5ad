use Rattle.std.proofs.Common.{arith, sym, ◌∙◌, ◌-◌}
use Rattle.text_grammar.proofs.Reading.{list_begun, list_goes_on, list_breaks_off, list_done, list_out}
use Rattle.fir_ast.specs.Limits.{limits}
use Rattle.fir_ast.specs.Lines as n
use Rattle.fir_ast.specs.CircuitGrammar as g
use Rattle.fir_read.proofs.LineReading.{else_rows_are}
use Rattle.fir_read.proofs.blocks.else_rows.Goals as goal

pub loop-turn-init : goal.loop-turn-init
loop-turn-init c = list_begun (n.is_else c.args.column) (g.else_row limits c.args.column).reads c.new-found.result.items c.left-turn-end.result c.args.tokens.now _ c.new-found.ensures.items c.left-turn-end.ensures (else_rows_are c.args.column c.args.tokens.now)

pub returns-in-Err : goal.returns-in-Err
returns-in-Err c = list_breaks_off (n.is_else c.args.column) (g.else_row limits c.args.column).reads c.loop-turn.found.items c.left-turn-end.result c.loop-turn._turn c.loop-turn.tokens _ c.in-Err.e c.loop-turn-test.true (sym c.begins_else.ensures ∙ c.if-not-begins_else.false) c.in-Err.ensures c.loop-turn.invariant

pub returns-then-not-begins_else : goal.returns-then-not-begins_else
returns-then-not-begins_else c = rw c.of.ensures (list_done (n.is_else c.args.column) (g.else_row limits c.args.column).reads c.loop-turn.found.items (c.left-turn-end.result - c.loop-turn._turn) c.loop-turn.tokens _ (sym c.begins_else.ensures ∙ c.if-not-begins_else.true) c.loop-turn.invariant)

pub loop-turn-preserved : goal.loop-turn-preserved
loop-turn-preserved c = list_goes_on (n.is_else c.args.column) (g.else_row limits c.args.column).reads c.loop-turn.found.items c.push.new.self.items c.in-Ok.row c.left-turn-end.result c.loop-turn._turn c.loop-turn.tokens c.else_row.new.tokens _ c.in_ok-push.ensures.items c.loop-turn-test.true (sym c.begins_else.ensures ∙ c.if-not-begins_else.false) c.in-Ok.ensures c.loop-turn.invariant

pub returns : goal.returns
returns c = rw c.of-2.ensures (list_out (n.is_else c.args.column) (g.else_row limits c.args.column).reads c.loop-turn.found.items c.left-turn-end.result c.loop-turn._turn c.loop-turn.tokens _ (omega arith) c.loop-turn.invariant)
