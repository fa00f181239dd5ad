use Rattle.std.proofs.Common.{arith, sym, ◌∙◌, ◌-◌}
use Rattle.text_grammar.proofs.Reading.{list_begun, list_goes_on, list_breaks_off, list_done, list_out}
use Rattle.tl_ast.specs.ExprGrammar.{expr_limits}
use Rattle.tl_ast.specs.TestGrammar as g
use Rattle.tl_text.proofs.Words.{stmts_are}
use Rattle.tl_text.proofs.blocks.+stmt.Goals as goal

pub stmts-loop-turn-init : goal.stmts-loop-turn-init
stmts-loop-turn-init t c = list_begun g.begins_stmt (g.stmt_in expr_limits (g.block_within expr_limits c.args.blocks) c.args.forks).reads c.new-found.result c.left-turn-end.result c.args.tokens.now _ c.new-found.ensures c.left-turn-end.ensures (stmts_are expr_limits (g.block_within expr_limits c.args.blocks) c.args.forks c.args.tokens.now)

pub stmts-returns-in-Err : goal.stmts-returns-in-Err
stmts-returns-in-Err t c = list_breaks_off g.begins_stmt (g.stmt_in expr_limits (g.block_within expr_limits c.args.blocks) c.args.forks).reads c.loop-turn.found c.left-turn-end.result c.loop-turn._turn c.loop-turn.tokens _ c.in-Err.e c.loop-turn-test.true (sym c.sees_stmt.ensures ∙ c.if-not-sees_stmt.false) c.in-Err.ensures c.loop-turn.invariant

pub stmts-returns-then-not-sees_stmt : goal.stmts-returns-then-not-sees_stmt
stmts-returns-then-not-sees_stmt t c = list_done g.begins_stmt (g.stmt_in expr_limits (g.block_within expr_limits c.args.blocks) c.args.forks).reads c.loop-turn.found (c.left-turn-end.result - c.loop-turn._turn) c.loop-turn.tokens _ (sym c.sees_stmt.ensures ∙ c.if-not-sees_stmt.true) c.loop-turn.invariant

pub stmts-loop-turn-preserved : goal.stmts-loop-turn-preserved
stmts-loop-turn-preserved t c = list_goes_on g.begins_stmt (g.stmt_in expr_limits (g.block_within expr_limits c.args.blocks) c.args.forks).reads c.loop-turn.found c.push.new.self c.in-Ok.next c.left-turn-end.result c.loop-turn._turn c.loop-turn.tokens c.stmt.new.tokens _ c.in_ok-push.ensures.ok c.loop-turn-test.true (sym c.sees_stmt.ensures ∙ c.if-not-sees_stmt.false) c.in-Ok.ensures c.loop-turn.invariant

pub stmts-returns : goal.stmts-returns
stmts-returns t c = list_out g.begins_stmt (g.stmt_in expr_limits (g.block_within expr_limits c.args.blocks) c.args.forks).reads c.loop-turn.found c.left-turn-end.result c.loop-turn._turn c.loop-turn.tokens _ (omega (arith, c.loop-turn-test.false)) c.loop-turn.invariant
