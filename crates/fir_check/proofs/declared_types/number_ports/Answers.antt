use Rattle.std.proofs.Common.{arith}
use Rattle.fir_check.specs.Numbers.{port_types}
use Rattle.fir_check.proofs.Numbering.{gains_start, gains_next, gains_end}
use Rattle.fir_check.proofs.declared_types.number_ports.Goals as goal

pub loop-port-init : goal.loop-port-init
loop-port-init c = gains_start port_types c.args.ports.now c.args.table.now c.args.numbers.now.items

pub loop-port-preserved : goal.loop-port-preserved
loop-port-preserved c =
    gains_next port_types c.args.ports.now c.loop-port.port-index c.port-item.result c.args.table.now c.loop-port.table c.number_type.new.table c.args.numbers.now.items c.loop-port.numbers.items c.number_type.new.numbers.items
    c.loop-port-test.true c.port-item.is c.in_ok-number_type.ensures c.loop-port.invariant

pub returns : goal.returns
returns c = gains_end port_types c.args.ports.now c.loop-port.port-index c.args.table.now c.loop-port.table c.args.numbers.now.items c.loop-port.numbers.items (omega arith) c.loop-port.invariant
