use Rattle.std.proofs.Common.{◌-◌, Some, sym, subst, ◌∙◌, arith}
use Rattle.text_grammar.specs.Part.{Reads}
use Rattle.tl_ast.specs.Limits.{always}
use Rattle.tl_ast.specs.ExprGrammar.{is_operator, one_more, level, parens}
use Rattle.tl_text.proofs.Peeking.{grow_begun, grow_goes_on, grow_breaks_off, grow_done, grow_out, behind_looser}
use Rattle.tl_text.proofs.exprs.+expr.Goals as goal

pub behind-returns : goal.behind-returns
behind-returns t c = subst (λ o. Reads o c.chain.result c.chain.new.tokens) (sym (behind_looser (Some 64) (parens (Some 64) c.args.depth) c.args.loose c.args.first c.in_ok-left.left c.args.tokens.now c.behind.new.tokens (omega (arith, c.if-loose-eq0.false)) c.in_ok-left.ensures)) c.chain.ensures

pub chain-loop-turn-init : goal.chain-loop-turn-init
chain-loop-turn-init t c = grow_begun always (is_operator c.args.loose) (one_more (Some 64) c.args.loose (level (Some 64) (parens (Some 64) c.args.depth) c.args.loose)) c.left-turn-end.result c.args.first c.args.tokens.now c.left-turn-end.ensures

pub chain-returns-then-not-sees_operator : goal.chain-returns-then-not-sees_operator
chain-returns-then-not-sees_operator t c = grow_done always (is_operator c.args.loose) (one_more (Some 64) c.args.loose (level (Some 64) (parens (Some 64) c.args.depth) c.args.loose)) (c.left-turn-end.result - c.loop-turn._turn) c.loop-turn.grown c.loop-turn.tokens _ (sym c.sees_operator.ensures ∙ c.if-not-sees_operator.true) c.loop-turn.invariant

pub chain-returns-in-Err : goal.chain-returns-in-Err
chain-returns-in-Err t c = grow_breaks_off always (is_operator c.args.loose) (one_more (Some 64) c.args.loose (level (Some 64) (parens (Some 64) c.args.depth) c.args.loose)) c.left-turn-end.result c.loop-turn._turn c.loop-turn.grown c.loop-turn.tokens _ c.in-Err.e c.loop-turn-test.true (sym c.sees_operator.ensures ∙ c.if-not-sees_operator.false) c.in-Err.ensures c.loop-turn.invariant

pub chain-loop-turn-preserved : goal.chain-loop-turn-preserved
chain-loop-turn-preserved t c = grow_goes_on always (is_operator c.args.loose) (one_more (Some 64) c.args.loose (level (Some 64) (parens (Some 64) c.args.depth) c.args.loose)) c.left-turn-end.result c.loop-turn._turn c.loop-turn.grown c.in-Ok.next c.loop-turn.tokens c.one_more.new.tokens _ c.loop-turn-test.true (sym c.sees_operator.ensures ∙ c.if-not-sees_operator.false) c.in-Ok.ensures c.loop-turn.invariant

pub chain-returns : goal.chain-returns
chain-returns t c = grow_out always (is_operator c.args.loose) (one_more (Some 64) c.args.loose (level (Some 64) (parens (Some 64) c.args.depth) c.args.loose)) c.left-turn-end.result c.loop-turn._turn c.loop-turn.grown c.loop-turn.tokens _ (omega (arith, c.loop-turn-test.false)) c.loop-turn.invariant
