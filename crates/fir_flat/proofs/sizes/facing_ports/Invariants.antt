use Rattle.std.proofs.Common.{◌≡◌, ◌≤◌, ◌+◌, drop}
use Rattle.fir_flat.specs.Counts.{cut}
use Rattle.fir_flat.specs.Shapes.{ports_shape}
use Rattle.fir_flat.specs.Measures.{facing}
use Rattle.fir_flat.proofs.sizes.facing_ports.Given as goal

abbrev pub invariant-loop-port : goal.invariant-loop-port
invariant-loop-port l = record { counted : cut (l.total + facing l.against (ports_shape (drop l.port-index l.ports))) ≡ cut (facing l.against (ports_shape l.ports)); low : l.total ≤ 4194305 }
