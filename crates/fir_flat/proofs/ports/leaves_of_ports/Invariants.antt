use Rattle.std.proofs.Common.{◌≡◌, map, take}
use Rattle.fir_flat.specs.Elaboration.{port_leaves}
use Rattle.fir_flat.specs.Ports.{seen_leaf}
use Rattle.fir_flat.proofs.ports.leaves_of_ports.Given as goal

abbrev pub invariant-loop-port : goal.invariant-loop-port
invariant-loop-port l = map seen_leaf l.leaves.items ≡ port_leaves (take l.port-index l.ports)
