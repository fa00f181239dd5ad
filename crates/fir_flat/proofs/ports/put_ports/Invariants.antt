use Rattle.std.proofs.Common.{◌≡◌, ◌++◌, map, drop}
use Rattle.fir_flat.specs.Elaboration.{declare_ports, port_leaves}
use Rattle.fir_flat.specs.Ports.{seen_leaf, takes}
use Rattle.fir_flat.proofs.ports.put_ports.Given as goal

abbrev pub invariant-loop-leaf : goal.invariant-loop-leaf
invariant-loop-leaf l =
    l.out.items ++ declare_ports (takes l.inputs l.others) l.number (map seen_leaf (drop l.leaf-index l.leaf-items))
    ≡ l.fn.out.items ++ declare_ports (takes l.inputs l.others) l.first (port_leaves l.ports)
