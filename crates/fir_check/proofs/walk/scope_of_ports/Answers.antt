use Rattle.std.proofs.Common.{◌∙◌, ap, arith, Some}
use Rattle.fir_check.specs.Scopes.{added, fresh}
use Rattle.fir_check.specs.Seen.{meant}
use Rattle.fir_check.specs.KnownSeen.{seen}
use Rattle.fir_check.specs.Numbers.{port_types}
use Rattle.fir_check.proofs.Numbering.{left_start, left_here, left_next, left_end}
use Rattle.fir_check.proofs.PortScope.{ports_start, ports_next, ports_end}
use Rattle.fir_check.proofs.walk.scope_of_ports.Goals as goal

pub loop-port-init : goal.loop-port-init
loop-port-init c = record {
  declared = ports_start c.args.ports.now (seen c.args.around.types.now c.new-scope.result) (ap (seen c.args.around.types.now) c.new-scope.ensures);
  numbers = left_start port_types c.args.ports.now c.args.around.types.now c.args.around.declared.now c.args.next.now c.requires;
}

pub take_number-number-requires : goal.take_number-number-requires
take_number-number-requires c =
    left_here port_types c.args.ports.now c.loop-port.port-index c.port-item.result c.args.around.types.now c.args.around.declared.now c.loop-port.next c.args.next.now c.loop-port-test.true c.port-item.is c.loop-port.invariant.numbers

pub loop-port-preserved : goal.loop-port-preserved
loop-port-preserved c = record {
  declared =
      ports_next c.args.ports.now c.loop-port.port-index c.port-item.result (seen c.args.around.types.now c.loop-port.scope) (seen c.args.around.types.now c.add.new.self) c.loop-port-test.true c.port-item.is
      (c.in_ok-add.ensures c.args.around.types.now
      ∙ ap (λ x. added (fresh x (Some (meant c.args.around.types.now c.thing_of_port.result))) (seen c.args.around.types.now c.loop-port.scope)) c.bytes.ensures
      ∙ ap (λ x. added (fresh c.port-item.result.name (Some x)) (seen c.args.around.types.now c.loop-port.scope)) (c.thing_of_port.ensures c.args.around.types.now c.take_number-number.ensures.is))
      c.loop-port.invariant.declared;
  numbers =
      left_next port_types c.args.ports.now c.loop-port.port-index c.port-item.result c.args.around.types.now c.args.around.declared.now c.loop-port.next c.take_number-number.new.next c.args.next.now c.loop-port-test.true c.port-item.is
      c.take_number-number.ensures.next c.loop-port.invariant.numbers;
}

pub returns-clause-names : goal.returns-clause-names
returns-clause-names c = ports_end c.args.ports.now c.loop-port.port-index (seen c.args.around.types.now c.loop-port.scope) (omega arith) c.loop-port.invariant.declared

pub returns-clause-next : goal.returns-clause-next
returns-clause-next c =
    left_end port_types c.args.ports.now c.loop-port.port-index c.args.around.types.now c.args.around.declared.now c.loop-port.next c.args.next.now (omega arith) c.loop-port.invariant.numbers
