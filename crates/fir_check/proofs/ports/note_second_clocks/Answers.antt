use Rattle.std.proofs.Common.{arith, rules, refl}
use Rattle.fir_check.proofs.Lines.{clocks_next, clocks_end}
use Rattle.fir_check.proofs.ports.note_second_clocks.Goals as goal

pub loop-port-init : goal.loop-port-init
loop-port-init c = record { noted = refl }

pub loop-port-preserved : goal.loop-port-preserved
loop-port-preserved c =
    clocks_next _ c.loop-port.port-index c.port-item.result c.loop-port.seen _ c.is_clock_input-clock.result c.loop-port.best c.note_if.new.self _
    c.loop-port-test.true c.port-item.is c.is_clock_input-clock.ensures (search rules) c.note_if.ensures c.loop-port.invariant

pub returns : goal.returns
returns c = clocks_end _ c.loop-port.port-index c.loop-port.seen c.loop-port.best _ (omega arith) c.loop-port.invariant
