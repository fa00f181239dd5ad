use Rattle.fir_check.specs.KnownSeen.{seen}
use Rattle.fir_check.specs.Numbers.{port_types}
use Rattle.fir_check.proofs.Numbering.{NumbersLeft}
use Rattle.fir_check.proofs.PortScope.{PortsLeft}
use Rattle.fir_check.proofs.walk.scope_of_ports.Given as goal

abbrev pub invariant-loop-port : goal.invariant-loop-port
invariant-loop-port l = record {
  declared : PortsLeft l.ports l.port-index (seen l.around.types.now l.scope);
  numbers : NumbersLeft port_types l.ports l.port-index l.around.types.now l.around.declared.now l.next l.initial.next;
}
