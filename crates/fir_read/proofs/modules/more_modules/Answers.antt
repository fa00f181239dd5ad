use Rattle.std.proofs.Common.{arith, sym, ap, ◌∙◌, ◌-◌, ◌++◌, ◌∷◌, [], List}
use Rattle.text_grammar.proofs.Reading.{list_goes_on, list_breaks_off, list_done, list_out}
use Rattle.fir_ast.specs.Limits.{limits}
use Rattle.fir_ast.specs.CircuitGrammar as g
use Rattle.fir_ast.specs.CircuitGrammar.{nested_within, block_limit}
use Rattle.fir_ast.specs.declared.tree.Module.{Module}
use Rattle.fir_read.proofs.BodyReading.{begun_with}
use Rattle.fir_read.proofs.modules.more_modules.Goals as goal

pub loop-turn-init : goal.loop-turn-init
loop-turn-init c = begun_with (g.is_module c.args.column) (g.one_module limits (nested_within limits block_limit) c.args.column) c.push.new.self.items c.args.first c.left-turn-end.result c.args.tokens.now (c.in_ok-push.ensures.items ∙ ap (λ (z : List Module). z ++ c.args.first ∷ []) c.new-found.ensures.items) c.left-turn-end.ensures

pub returns-in-Err : goal.returns-in-Err
returns-in-Err c = list_breaks_off (g.is_module c.args.column) (g.one_module limits (nested_within limits block_limit) c.args.column).reads c.loop-turn.found.items c.left-turn-end.result c.loop-turn._turn c.loop-turn.tokens _ c.in-Err.e c.loop-turn-test.true (sym c.begins_module.ensures ∙ c.if-not-begins_module.false) c.in-Err.ensures c.loop-turn.invariant

pub returns-then-not-begins_module : goal.returns-then-not-begins_module
returns-then-not-begins_module c = rw c.of.ensures (list_done (g.is_module c.args.column) (g.one_module limits (nested_within limits block_limit) c.args.column).reads c.loop-turn.found.items (c.left-turn-end.result - c.loop-turn._turn) c.loop-turn.tokens _ (sym c.begins_module.ensures ∙ c.if-not-begins_module.true) c.loop-turn.invariant)

pub loop-turn-preserved : goal.loop-turn-preserved
loop-turn-preserved c = list_goes_on (g.is_module c.args.column) (g.one_module limits (nested_within limits block_limit) c.args.column).reads c.loop-turn.found.items c.push-in-loop-turn.new.self.items c.in-Ok.next c.left-turn-end.result c.loop-turn._turn c.loop-turn.tokens c.one_module.new.tokens _ c.in_ok-push-2.ensures.items c.loop-turn-test.true (sym c.begins_module.ensures ∙ c.if-not-begins_module.false) c.in-Ok.ensures c.loop-turn.invariant

pub returns : goal.returns
returns c = rw c.of-2.ensures (list_out (g.is_module c.args.column) (g.one_module limits (nested_within limits block_limit) c.args.column).reads c.loop-turn.found.items c.left-turn-end.result c.loop-turn._turn c.loop-turn.tokens _ (omega arith) c.loop-turn.invariant)
