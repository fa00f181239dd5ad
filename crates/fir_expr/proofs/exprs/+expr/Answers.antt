use Rattle.std.proofs.Common.{◌≡◌, ℕ, ◌-◌, Err, subst, sym, arith}
use Rattle.text_grammar.specs.Part.{Reads}
use Rattle.text_grammar.specs.declared.fault.Kind.TheVariants.{TooDeep}
use Rattle.fir_ast.specs.Limits.{grow_up_to}
use Rattle.fir_ast.specs.ExprGrammar.{is_suffix, suffix, expr_inside}
use Rattle.fir_expr.proofs.Deeper.{expr_deeper}
use Rattle.fir_expr.proofs.Loops.{grow_goes_on, grow_breaks_off, grow_done, grow_full, commas_go_on, commas_break_off, commas_done}
use Rattle.fir_expr.proofs.exprs.+expr.Goals as goal

pub inside-returns : goal.inside-returns
inside-returns t c = subst (λ o. Reads o c.expr_at.result c.expr_at.new.tokens) (sym (expr_deeper 32 c.args.depth c.args.tokens.now c.name.new.self c.in_ok-word.word (omega (arith, c.if-depth-eq0.false)) c.in_ok-word.ensures)) c.expr_at.ensures

pub suffixes-returns-then-not-begins_suffix : goal.suffixes-returns-then-not-begins_suffix
suffixes-returns-then-not-begins_suffix t c = grow_done is_suffix (λ of. suffix c.args.depth (expr_inside 32 c.args.depth) of) (32 - c.loop-turn._turn) c.loop-turn.grown c.loop-turn.tokens _ (sym c.if-not-begins_suffix.ensures) c.loop-turn.invariant

pub suffixes-returns-in-Err : goal.suffixes-returns-in-Err
suffixes-returns-in-Err t c = grow_breaks_off is_suffix (λ of. suffix c.args.depth (expr_inside 32 c.args.depth) of) 32 c.loop-turn._turn c.loop-turn.grown c.loop-turn.tokens _ c.in-Err.e c.loop-turn-test.true (sym c.if-not-begins_suffix.ensures) c.in-Err.ensures c.loop-turn.invariant

pub suffixes-loop-turn-preserved : goal.suffixes-loop-turn-preserved
suffixes-loop-turn-preserved t c = grow_goes_on is_suffix (λ of. suffix c.args.depth (expr_inside 32 c.args.depth) of) 32 c.loop-turn._turn c.loop-turn.grown c.in-Ok.next c.loop-turn.tokens c.suffix.new.tokens _ c.loop-turn-test.true (sym c.if-not-begins_suffix.ensures) c.in-Ok.ensures c.loop-turn.invariant

pub suffixes-returns-then-begins_suffix : goal.suffixes-returns-then-begins_suffix
suffixes-returns-then-begins_suffix t c =
    subst (λ (n : ℕ). (grow_up_to 32 is_suffix (λ of. suffix c.args.depth (expr_inside 32 c.args.depth) of) c.args.first).reads c.args.tokens.now ≡ Err (TooDeep, n)) (sym c.left.ensures)
    (grow_full is_suffix (λ of. suffix c.args.depth (expr_inside 32 c.args.depth) of) (32 - c.loop-turn._turn) c.loop-turn.grown c.loop-turn.tokens _ (omega (arith, c.loop-turn-test.false)) (sym c.if-begins_suffix.ensures) c.loop-turn.invariant)

pub suffixes-returns : goal.suffixes-returns
suffixes-returns t c = grow_done is_suffix (λ of. suffix c.args.depth (expr_inside 32 c.args.depth) of) (32 - c.loop-turn._turn) c.loop-turn.grown c.loop-turn.tokens _ (sym c.if-begins_suffix.ensures) c.loop-turn.invariant

pub further_operands-returns-in-Err : goal.further_operands-returns-in-Err
further_operands-returns-in-Err t c = commas_break_off (expr_inside 32 c.args.depth) c.loop-turn.found c.args.count c.loop-turn._turn c.loop-turn.tokens _ c.in-Err.e c.loop-turn-test.true c.in-Err.ensures c.loop-turn.invariant

pub further_operands-loop-turn-preserved : goal.further_operands-loop-turn-preserved
further_operands-loop-turn-preserved t c = commas_go_on (expr_inside 32 c.args.depth) c.loop-turn.found c.push-in-loop-turn.new.self c.in-Ok.next c.args.count c.loop-turn._turn c.loop-turn.tokens c.further_operand.new.tokens _ c.in_ok-push-2.ensures.ok c.loop-turn-test.true c.in-Ok.ensures c.loop-turn.invariant

pub further_operands-returns : goal.further_operands-returns
further_operands-returns t c = commas_done (expr_inside 32 c.args.depth) c.loop-turn.found c.args.count c.loop-turn._turn c.loop-turn.tokens _ (omega (arith, c.loop-turn-test.false)) c.loop-turn.invariant
