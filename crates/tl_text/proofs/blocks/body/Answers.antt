use Rattle.std.proofs.Common.{arith, sym, ◌∙◌, ◌-◌}
use Rattle.text_grammar.proofs.Reading.{list_begun, list_goes_on, list_breaks_off, list_done, list_out}
use Rattle.tl_ast.specs.ExprGrammar.{expr_limits}
use Rattle.tl_ast.specs.TestGrammar as g
use Rattle.tl_text.proofs.Words.{stmts_are}
use Rattle.tl_text.proofs.blocks.body.Goals as goal

pub loop-turn-init : goal.loop-turn-init
loop-turn-init c = list_begun g.begins_stmt (g.stmt_in expr_limits (g.block_within expr_limits 32) 8).reads c.new-found.result.items c.left-turn-end.result c.args.tokens.now _ c.new-found.ensures.items c.left-turn-end.ensures (stmts_are expr_limits (g.block_within expr_limits 32) 8 c.args.tokens.now)

pub returns-in-Err : goal.returns-in-Err
returns-in-Err c = list_breaks_off g.begins_stmt (g.stmt_in expr_limits (g.block_within expr_limits 32) 8).reads c.loop-turn.found.items c.left-turn-end.result c.loop-turn._turn c.loop-turn.tokens _ c.in-Err.e c.loop-turn-test.true (sym c.sees_stmt.ensures ∙ c.if-not-sees_stmt.false) c.in-Err.ensures c.loop-turn.invariant

pub returns-then-not-sees_stmt : goal.returns-then-not-sees_stmt
returns-then-not-sees_stmt c = rw c.of.ensures (list_done g.begins_stmt (g.stmt_in expr_limits (g.block_within expr_limits 32) 8).reads c.loop-turn.found.items (c.left-turn-end.result - c.loop-turn._turn) c.loop-turn.tokens _ (sym c.sees_stmt.ensures ∙ c.if-not-sees_stmt.true) c.loop-turn.invariant)

pub loop-turn-preserved : goal.loop-turn-preserved
loop-turn-preserved c = list_goes_on g.begins_stmt (g.stmt_in expr_limits (g.block_within expr_limits 32) 8).reads c.loop-turn.found.items c.push.new.self.items c.in-Ok.next c.left-turn-end.result c.loop-turn._turn c.loop-turn.tokens c.stmt.new.tokens _ c.in_ok-push.ensures.items c.loop-turn-test.true (sym c.sees_stmt.ensures ∙ c.if-not-sees_stmt.false) c.in-Ok.ensures c.loop-turn.invariant

pub returns : goal.returns
returns c = rw c.of-2.ensures (list_out g.begins_stmt (g.stmt_in expr_limits (g.block_within expr_limits 32) 8).reads c.loop-turn.found.items c.left-turn-end.result c.loop-turn._turn c.loop-turn.tokens _ (omega (arith, c.loop-turn-test.false)) c.loop-turn.invariant)
