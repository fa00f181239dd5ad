use Rattle.std.proofs.Common.{◌≡◌, ◌++◌, drop}
use Rattle.fir_flat.specs.Shapes.{ports_shape}
use Rattle.fir_flat.specs.Kinds.{kind_shape}
use Rattle.fir_flat.specs.Parts.{partners_behind}
use Rattle.fir_flat.proofs.partners.put_port_partners.Given as goal

abbrev pub invariant-loop-port : goal.invariant-loop-port
invariant-loop-port l =
    l.out.items ++ partners_behind 0 (ports_shape (drop l.port-index l.ports)) (kind_shape l.other)
    ≡ l.fn.out.items ++ partners_behind 0 (ports_shape l.ports) (kind_shape l.other)
