use Rattle.std.proofs.Common.{◌-◌, refl, ap, sym, ◌∙◌, arith}
use Rattle.text_grammar.specs.Part.{carried}
use Rattle.text_grammar.proofs.Reading.{begun, goes_on, breaks_off, is_done, is_out, many_is}
use Rattle.tl_ast.specs.TestGrammar as g
use Rattle.tl_text.proofs.ports.suffixes.Goals as goal

pub loop-turn-init : goal.loop-turn-init
loop-turn-init c = begun g.longer g.is_suffix g.suffix.reads c.args.first c.left-turn-end.result c.args.tokens.now c.left-turn-end.ensures ∙ ap (λ o. carried g.longer c.args.first o) (sym (many_is g.is_suffix g.suffix c.args.tokens.now))

pub returns-then-not-sees_suffix : goal.returns-then-not-sees_suffix
returns-then-not-sees_suffix c = is_done g.longer g.is_suffix g.suffix.reads c.loop-turn.name (c.left-turn-end.result - c.loop-turn._turn) c.loop-turn.tokens _ (sym c.sees_suffix.ensures ∙ c.if-not-sees_suffix.true) c.loop-turn.invariant

pub returns-in-Err : goal.returns-in-Err
returns-in-Err c = breaks_off g.longer g.is_suffix g.suffix.reads c.loop-turn.name c.left-turn-end.result c.loop-turn._turn c.loop-turn.tokens _ c.in-Err.e c.loop-turn-test.true (sym c.sees_suffix.ensures ∙ c.if-not-sees_suffix.false) c.in-Err.ensures c.loop-turn.invariant

pub loop-turn-preserved : goal.loop-turn-preserved
loop-turn-preserved c = goes_on g.longer g.is_suffix g.suffix.reads c.loop-turn.name c.in_ok-name.name c.in-Ok.added c.left-turn-end.result c.loop-turn._turn c.loop-turn.tokens c.suffix.new.tokens _ (λ more. rw c.in_ok-name.ensures refl) c.loop-turn-test.true (sym c.sees_suffix.ensures ∙ c.if-not-sees_suffix.false) c.in-Ok.ensures c.loop-turn.invariant

pub returns : goal.returns
returns c = is_out g.longer g.is_suffix g.suffix.reads c.loop-turn.name c.left-turn-end.result c.loop-turn._turn c.loop-turn.tokens _ (omega (arith, c.loop-turn-test.false)) c.loop-turn.invariant
