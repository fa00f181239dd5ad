use Rattle.std.proofs.Common.{◌-◌, Some, sym, ◌∙◌, arith}
use Rattle.text_grammar.specs.Terminals.{is_symbol}
use Rattle.text_grammar.specs.declared.item.Symbol.TheVariants as s
use Rattle.tl_ast.specs.Limits.{always}
use Rattle.tl_ast.specs.ExprGrammar.{minus}
use Rattle.tl_text.proofs.Peeking.{grow_begun, grow_goes_on, grow_breaks_off, grow_done, grow_out, minuses_is}
use Rattle.tl_text.proofs.exprs.minuses.Goals as goal

pub loop-turn-init : goal.loop-turn-init
loop-turn-init c = grow_begun always (is_symbol s.Minus) (minus (Some 64)) c.left-turn-end.result c.args.first c.args.tokens.now c.left-turn-end.ensures ∙ minuses_is (Some 64) c.args.first c.args.tokens.now

pub returns-then-not-sees : goal.returns-then-not-sees
returns-then-not-sees c = grow_done always (is_symbol s.Minus) (minus (Some 64)) (c.left-turn-end.result - c.loop-turn._turn) c.loop-turn.count c.loop-turn.tokens _ (sym c.sees.ensures ∙ c.if-not-sees.true) c.loop-turn.invariant

pub returns-in-Err : goal.returns-in-Err
returns-in-Err c = grow_breaks_off always (is_symbol s.Minus) (minus (Some 64)) c.left-turn-end.result c.loop-turn._turn c.loop-turn.count c.loop-turn.tokens _ c.in-Err.e c.loop-turn-test.true (sym c.sees.ensures ∙ c.if-not-sees.false) c.in-Err.ensures c.loop-turn.invariant

pub loop-turn-preserved : goal.loop-turn-preserved
loop-turn-preserved c = grow_goes_on always (is_symbol s.Minus) (minus (Some 64)) c.left-turn-end.result c.loop-turn._turn c.loop-turn.count c.in-Ok.next c.loop-turn.tokens c.minus.new.tokens _ c.loop-turn-test.true (sym c.sees.ensures ∙ c.if-not-sees.false) c.in-Ok.ensures c.loop-turn.invariant

pub returns : goal.returns
returns c = grow_out always (is_symbol s.Minus) (minus (Some 64)) c.left-turn-end.result c.loop-turn._turn c.loop-turn.count c.loop-turn.tokens _ (omega (arith, c.loop-turn-test.false)) c.loop-turn.invariant
