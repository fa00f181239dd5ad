use Rattle.std.proofs.Common.{◌≡◌, ◌≤◌, ◌+◌, drop}
use Rattle.fir_flat.specs.Counts.{cut}
use Rattle.fir_flat.specs.Shapes.{size, ports_shape}
use Rattle.fir_flat.proofs.sizes.size_of_ports.Given as goal

abbrev pub invariant-loop-port : goal.invariant-loop-port
invariant-loop-port l = record { counted : cut (l.total + size (ports_shape (drop l.port-index l.ports))) ≡ cut (size (ports_shape l.ports)); low : l.total ≤ 4194305 }
