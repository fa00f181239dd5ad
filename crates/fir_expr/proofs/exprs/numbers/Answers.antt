use Rattle.std.proofs.Common.{arith}
use Rattle.text_grammar.specs.Terminals.{number}
use Rattle.fir_expr.proofs.Loops.{commas_go_on, commas_break_off, commas_done}
use Rattle.fir_expr.proofs.exprs.numbers.Goals as goal

pub returns-in-Err : goal.returns-in-Err
returns-in-Err c = commas_break_off number c.loop-turn.found.items c.args.count c.loop-turn._turn c.loop-turn.tokens _ c.in-Err.e c.loop-turn-test.true c.in-Err.ensures c.loop-turn.invariant

pub loop-turn-preserved : goal.loop-turn-preserved
loop-turn-preserved c = commas_go_on number c.loop-turn.found.items c.push.new.self.items c.in-Ok.next c.args.count c.loop-turn._turn c.loop-turn.tokens c.further_number.new.tokens _ c.in_ok-push.ensures.items c.loop-turn-test.true c.in-Ok.ensures c.loop-turn.invariant

pub returns : goal.returns
returns c = rw c.of.ensures (commas_done number c.loop-turn.found.items c.args.count c.loop-turn._turn c.loop-turn.tokens _ (omega (arith, c.loop-turn-test.false)) c.loop-turn.invariant)
