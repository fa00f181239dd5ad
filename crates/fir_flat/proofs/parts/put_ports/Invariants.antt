use Rattle.std.proofs.Common.{◌≡◌, ◌++◌, drop, false}
use Rattle.fir_flat.specs.Shapes.{ports_shape}
use Rattle.fir_flat.specs.Parts.{turned_parts}
use Rattle.fir_flat.proofs.parts.put_ports.Given as goal

abbrev pub invariant-loop-port : goal.invariant-loop-port
invariant-loop-port l =
    l.out.items ++ turned_parts false (ports_shape (drop l.port-index l.ports)) ≡ l.fn.out.items ++ turned_parts false (ports_shape l.ports)
