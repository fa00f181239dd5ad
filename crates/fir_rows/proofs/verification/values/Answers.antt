use Rattle.std.proofs.Common.{arith, sym, ◌∙◌, ◌-◌}
use Rattle.text_grammar.proofs.Reading.{list_begun, list_goes_on, list_breaks_off, list_done, list_out, many_is}
use Rattle.text_grammar.specs.Terminals.{is_symbol}
use Rattle.text_grammar.specs.declared.item.Symbol.TheVariants as s
use Rattle.fir_ast.specs.Limits.{limits}
use Rattle.fir_ast.specs.RowGrammar as g
use Rattle.fir_rows.proofs.verification.values.Goals as goal

pub loop-turn-init : goal.loop-turn-init
loop-turn-init c = list_begun (is_symbol s.Comma) (g.value limits).reads c.new-found.result.items c.left-turn-end.result c.args.tokens.now _ c.new-found.ensures.items c.left-turn-end.ensures (many_is (is_symbol s.Comma) (g.value limits) c.args.tokens.now)

pub returns-in-Err : goal.returns-in-Err
returns-in-Err c = list_breaks_off (is_symbol s.Comma) (g.value limits).reads c.loop-turn.found.items c.left-turn-end.result c.loop-turn._turn c.loop-turn.tokens _ c.in-Err.e c.loop-turn-test.true (sym c.sees.ensures ∙ c.if-not-sees.false) c.in-Err.ensures c.loop-turn.invariant

pub returns-then-not-sees : goal.returns-then-not-sees
returns-then-not-sees c = rw c.of.ensures (list_done (is_symbol s.Comma) (g.value limits).reads c.loop-turn.found.items (c.left-turn-end.result - c.loop-turn._turn) c.loop-turn.tokens _ (sym c.sees.ensures ∙ c.if-not-sees.true) c.loop-turn.invariant)

pub loop-turn-preserved : goal.loop-turn-preserved
loop-turn-preserved c = list_goes_on (is_symbol s.Comma) (g.value limits).reads c.loop-turn.found.items c.push.new.self.items c.in-Ok.next c.left-turn-end.result c.loop-turn._turn c.loop-turn.tokens c.value.new.tokens _ c.in_ok-push.ensures.items c.loop-turn-test.true (sym c.sees.ensures ∙ c.if-not-sees.false) c.in-Ok.ensures c.loop-turn.invariant

pub returns : goal.returns
returns c = rw c.of-2.ensures (list_out (is_symbol s.Comma) (g.value limits).reads c.loop-turn.found.items c.left-turn-end.result c.loop-turn._turn c.loop-turn.tokens _ (omega arith) c.loop-turn.invariant)
