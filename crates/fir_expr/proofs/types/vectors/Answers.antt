use Rattle.std.proofs.Common.{◌≡◌, ℕ, ◌-◌, Err, subst, sym, arith}
use Rattle.text_grammar.specs.Terminals.{is_symbol}
use Rattle.text_grammar.specs.declared.item.Symbol.TheVariants as s
use Rattle.text_grammar.specs.declared.fault.Kind.TheVariants.{TooDeep}
use Rattle.fir_ast.specs.Limits.{grow_up_to}
use Rattle.fir_ast.specs.TypeGrammar.{vector}
use Rattle.fir_expr.proofs.Loops.{grow_goes_on, grow_breaks_off, grow_done, grow_full}
use Rattle.fir_expr.proofs.types.vectors.Goals as goal

pub returns-then-not-sees : goal.returns-then-not-sees
returns-then-not-sees c = grow_done (is_symbol s.OpenBracket) (λ of. vector of) (32 - c.loop-turn._turn) c.loop-turn.grown c.loop-turn.tokens _ (sym c.if-not-sees.ensures) c.loop-turn.invariant

pub returns-in-Err : goal.returns-in-Err
returns-in-Err c = grow_breaks_off (is_symbol s.OpenBracket) (λ of. vector of) 32 c.loop-turn._turn c.loop-turn.grown c.loop-turn.tokens _ c.in-Err.e c.loop-turn-test.true (sym c.if-not-sees.ensures) c.in-Err.ensures c.loop-turn.invariant

pub loop-turn-preserved : goal.loop-turn-preserved
loop-turn-preserved c = grow_goes_on (is_symbol s.OpenBracket) (λ of. vector of) 32 c.loop-turn._turn c.loop-turn.grown c.in-Ok.next c.loop-turn.tokens c.vector.new.tokens _ c.loop-turn-test.true (sym c.if-not-sees.ensures) c.in-Ok.ensures c.loop-turn.invariant

pub returns-then-sees : goal.returns-then-sees
returns-then-sees c = subst (λ (n : ℕ). (grow_up_to 32 (is_symbol s.OpenBracket) (λ of. vector of) c.args.first).reads c.args.tokens.now ≡ Err (TooDeep, n)) (sym c.left.ensures)
    (grow_full (is_symbol s.OpenBracket) (λ of. vector of) (32 - c.loop-turn._turn) c.loop-turn.grown c.loop-turn.tokens _ (omega (arith, c.loop-turn-test.false)) (sym c.if-sees.ensures) c.loop-turn.invariant)

pub returns : goal.returns
returns c = grow_done (is_symbol s.OpenBracket) (λ of. vector of) (32 - c.loop-turn._turn) c.loop-turn.grown c.loop-turn.tokens _ (sym c.if-sees.ensures) c.loop-turn.invariant
