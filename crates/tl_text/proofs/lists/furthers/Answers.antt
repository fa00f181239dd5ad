use Rattle.std.proofs.Common.{arith, ap, sym, ◌∙◌, ◌-◌, ◌++◌, ◌∷◌, []}
use Rattle.text_grammar.proofs.Reading.{list_goes_on, list_breaks_off, list_done, list_out}
use Rattle.text_grammar.specs.Terminals.{is_symbol}
use Rattle.text_grammar.specs.declared.item.Symbol.TheVariants as s
use Rattle.tl_ast.specs.ExprGrammar.{expr_limits}
use Rattle.tl_ast.specs.TestGrammar as g
use Rattle.tl_text.proofs.Peeking.{furthers_follow}
use Rattle.tl_text.proofs.lists.furthers.Goals as goal

pub loop-turn-init : goal.loop-turn-init
loop-turn-init c = furthers_follow expr_limits c.push.new.self.items c.args.first c.left-turn-end.result c.args.tokens.now (c.in_ok-push.ensures.items ∙ ap (λ z. z ++ c.args.first ∷ []) c.new-found.ensures.items) c.left-turn-end.ensures

pub returns-in-Err : goal.returns-in-Err
returns-in-Err c = list_breaks_off (is_symbol s.Comma) (g.further expr_limits).reads c.loop-turn.found.items c.left-turn-end.result c.loop-turn._turn c.loop-turn.tokens _ c.in-Err.e c.loop-turn-test.true (sym c.sees.ensures ∙ c.if-not-sees.false) c.in-Err.ensures c.loop-turn.invariant

pub returns-then-not-sees : goal.returns-then-not-sees
returns-then-not-sees c = rw c.of.ensures (list_done (is_symbol s.Comma) (g.further expr_limits).reads c.loop-turn.found.items (c.left-turn-end.result - c.loop-turn._turn) c.loop-turn.tokens _ (sym c.sees.ensures ∙ c.if-not-sees.true) c.loop-turn.invariant)

pub loop-turn-preserved : goal.loop-turn-preserved
loop-turn-preserved c = list_goes_on (is_symbol s.Comma) (g.further expr_limits).reads c.loop-turn.found.items c.push-in-loop-turn.new.self.items c.in-Ok.next c.left-turn-end.result c.loop-turn._turn c.loop-turn.tokens c.further.new.tokens _ c.in_ok-push-2.ensures.items c.loop-turn-test.true (sym c.sees.ensures ∙ c.if-not-sees.false) c.in-Ok.ensures c.loop-turn.invariant

pub returns : goal.returns
returns c = rw c.of-2.ensures (list_out (is_symbol s.Comma) (g.further expr_limits).reads c.loop-turn.found.items c.left-turn-end.result c.loop-turn._turn c.loop-turn.tokens _ (omega (arith, c.loop-turn-test.false)) c.loop-turn.invariant)
