use Rattle.std.proofs.Common.{◌-◌, refl, ap, sym, ◌∙◌, arith}
use Rattle.text_grammar.specs.Part.{carried}
use Rattle.text_grammar.proofs.Reading.{begun, goes_on, breaks_off, is_done, is_out, many_is}
use Rattle.text_grammar.specs.Terminals.{is_symbol}
use Rattle.text_grammar.specs.declared.item.Symbol.TheVariants as s
use Rattle.tl_ast.specs.TestGrammar as g
use Rattle.tl_text.proofs.ports.dots.Goals as goal

pub loop-turn-init : goal.loop-turn-init
loop-turn-init c = begun g.longer (is_symbol s.Dot) g.field.reads c.args.first c.left-turn-end.result c.args.tokens.now c.left-turn-end.ensures ∙ ap (λ o. carried g.longer c.args.first o) (sym (many_is (is_symbol s.Dot) g.field c.args.tokens.now))

pub returns-then-not-sees : goal.returns-then-not-sees
returns-then-not-sees c = is_done g.longer (is_symbol s.Dot) g.field.reads c.loop-turn.name (c.left-turn-end.result - c.loop-turn._turn) c.loop-turn.tokens _ (sym c.sees.ensures ∙ c.if-not-sees.true) c.loop-turn.invariant

pub returns-in-Err : goal.returns-in-Err
returns-in-Err c = breaks_off g.longer (is_symbol s.Dot) g.field.reads c.loop-turn.name c.left-turn-end.result c.loop-turn._turn c.loop-turn.tokens _ c.in-Err.e c.loop-turn-test.true (sym c.sees.ensures ∙ c.if-not-sees.false) c.in-Err.ensures c.loop-turn.invariant

pub loop-turn-preserved : goal.loop-turn-preserved
loop-turn-preserved c = goes_on g.longer (is_symbol s.Dot) g.field.reads c.loop-turn.name c.in_ok-name.name c.in-Ok.added c.left-turn-end.result c.loop-turn._turn c.loop-turn.tokens c.field.new.tokens _ (λ more. rw c.in_ok-name.ensures refl) c.loop-turn-test.true (sym c.sees.ensures ∙ c.if-not-sees.false) c.in-Ok.ensures c.loop-turn.invariant

pub returns : goal.returns
returns c = is_out g.longer (is_symbol s.Dot) g.field.reads c.loop-turn.name c.left-turn-end.result c.loop-turn._turn c.loop-turn.tokens _ (omega (arith, c.loop-turn-test.false)) c.loop-turn.invariant
