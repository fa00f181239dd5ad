use Rattle.std.proofs.Common.{◌-◌, sym, ◌∙◌, arith}
use Rattle.tl_ast.specs.ExprGrammar.{expr_limits}
use Rattle.tl_ast.specs.TestGrammar as g
use Rattle.tl_text.proofs.Peeking.{grow_begun, grow_goes_on, grow_breaks_off, grow_done, grow_out, listed_behind_is}
use Rattle.tl_text.proofs.lists.listed_behind.Goals as goal

pub loop-turn-init : goal.loop-turn-init
loop-turn-init c = grow_begun g.may_be_index g.is_suffix (g.listed_further expr_limits) c.left-turn-end.result c.args.first c.args.tokens.now c.left-turn-end.ensures ∙ listed_behind_is expr_limits c.args.first c.args.tokens.now

pub returns-then-not-goes_on : goal.returns-then-not-goes_on
returns-then-not-goes_on c = grow_done g.may_be_index g.is_suffix (g.listed_further expr_limits) (c.left-turn-end.result - c.loop-turn._turn) c.loop-turn.listed c.loop-turn.tokens _ (sym c.goes_on.ensures ∙ c.if-not-goes_on.true) c.loop-turn.invariant

pub returns-in-Err : goal.returns-in-Err
returns-in-Err c = grow_breaks_off g.may_be_index g.is_suffix (g.listed_further expr_limits) c.left-turn-end.result c.loop-turn._turn c.loop-turn.listed c.loop-turn.tokens _ c.in-Err.e c.loop-turn-test.true (sym c.goes_on.ensures ∙ c.if-not-goes_on.false) c.in-Err.ensures c.loop-turn.invariant

pub loop-turn-preserved : goal.loop-turn-preserved
loop-turn-preserved c = grow_goes_on g.may_be_index g.is_suffix (g.listed_further expr_limits) c.left-turn-end.result c.loop-turn._turn c.loop-turn.listed c.in-Ok.next c.loop-turn.tokens c.listed_further.new.tokens _ c.loop-turn-test.true (sym c.goes_on.ensures ∙ c.if-not-goes_on.false) c.in-Ok.ensures c.loop-turn.invariant

pub returns : goal.returns
returns c = grow_out g.may_be_index g.is_suffix (g.listed_further expr_limits) c.left-turn-end.result c.loop-turn._turn c.loop-turn.listed c.loop-turn.tokens _ (omega (arith, c.loop-turn-test.false)) c.loop-turn.invariant
