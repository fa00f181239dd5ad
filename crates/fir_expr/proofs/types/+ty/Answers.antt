use Rattle.std.proofs.Common.{◌-◌, List, [], ◌∷◌, ◌++◌, ap, subst, sym, ◌∙◌, arith}
use Rattle.text_grammar.specs.Part.{Reads}
use Rattle.text_grammar.specs.Terminals.{is_symbol}
use Rattle.text_grammar.specs.declared.item.Symbol.TheVariants as s
use Rattle.text_grammar.proofs.Reading.{list_goes_on, list_breaks_off, list_done, list_out}
use Rattle.fir_ast.specs.declared.tree.Field.{Field}
use Rattle.fir_ast.specs.TypeGrammar.{further_field, ty_inside}
use Rattle.fir_expr.proofs.Deeper.{ty_deeper}
use Rattle.fir_expr.proofs.Loops.{many_follow}
use Rattle.fir_expr.proofs.types.+ty.Goals as goal

pub inside-returns : goal.inside-returns
inside-returns t c = subst (λ o. Reads o c.ty_at.result c.ty_at.new.tokens) (sym (ty_deeper 32 c.args.depth c.args.tokens.now (omega (arith, c.if-depth-eq0.false)))) c.ty_at.ensures

pub further_fields-loop-turn-init : goal.further_fields-loop-turn-init
further_fields-loop-turn-init t c = many_follow (is_symbol s.Comma) (further_field (ty_inside 32 c.args.depth)) c.push.new.self c.args.first c.left-turn-end.result c.args.tokens.now
    (c.in_ok-push.ensures.ok ∙ ap (λ (z : List Field). z ++ (c.args.first ∷ [])) c.new-found.ensures) c.left-turn-end.ensures

pub further_fields-returns-then-not-sees : goal.further_fields-returns-then-not-sees
further_fields-returns-then-not-sees t c = list_done (is_symbol s.Comma) (further_field (ty_inside 32 c.args.depth)).reads c.loop-turn.found (c.left-turn-end.result - c.loop-turn._turn) c.loop-turn.tokens _ (sym c.if-not-sees.ensures) c.loop-turn.invariant

pub further_fields-returns-in-Err : goal.further_fields-returns-in-Err
further_fields-returns-in-Err t c = list_breaks_off (is_symbol s.Comma) (further_field (ty_inside 32 c.args.depth)).reads c.loop-turn.found c.left-turn-end.result c.loop-turn._turn c.loop-turn.tokens _ c.in-Err.e c.loop-turn-test.true (sym c.if-not-sees.ensures) c.in-Err.ensures c.loop-turn.invariant

pub further_fields-loop-turn-preserved : goal.further_fields-loop-turn-preserved
further_fields-loop-turn-preserved t c = list_goes_on (is_symbol s.Comma) (further_field (ty_inside 32 c.args.depth)).reads c.loop-turn.found c.push-in-loop-turn.new.self c.in-Ok.next c.left-turn-end.result c.loop-turn._turn c.loop-turn.tokens c.further_field.new.tokens _ c.in_ok-push-2.ensures.ok c.loop-turn-test.true (sym c.if-not-sees.ensures) c.in-Ok.ensures c.loop-turn.invariant

pub further_fields-returns : goal.further_fields-returns
further_fields-returns t c = list_out (is_symbol s.Comma) (further_field (ty_inside 32 c.args.depth)).reads c.loop-turn.found c.left-turn-end.result c.loop-turn._turn c.loop-turn.tokens _ (omega (arith, c.loop-turn-test.false)) c.loop-turn.invariant
