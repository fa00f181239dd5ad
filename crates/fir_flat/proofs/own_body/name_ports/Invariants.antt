use Rattle.std.proofs.Common.{◌≡◌, ◌+◌, ◌++◌, drop}
use Rattle.fir_flat.specs.Shapes.{size, ports_shape}
use Rattle.fir_flat.specs.Modules.{ports_known}
use Rattle.fir_flat.specs.Kinds.{seen}
use Rattle.fir_flat.proofs.own_body.name_ports.Given as goal

abbrev pub invariant-loop-port : goal.invariant-loop-port
invariant-loop-port l = record {
  known : seen l.known ++ ports_known l.next (drop l.port-index l.ports) ≡ ports_known l.first l.ports;
  next : l.next + size (ports_shape (drop l.port-index l.ports)) ≡ l.first + size (ports_shape l.ports);
}
