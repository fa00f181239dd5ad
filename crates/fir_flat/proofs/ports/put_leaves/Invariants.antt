use Rattle.std.proofs.Common.{◌≡◌, ◌++◌, map, take}
use Rattle.fir_flat.specs.Ports.{seen_leaf}
use Rattle.fir_flat.proofs.PortFacts.{part_leaf}
use Rattle.fir_flat.proofs.ports.put_leaves.Given as goal

abbrev pub invariant-loop-part : goal.invariant-loop-part
invariant-loop-part l = map seen_leaf l.out.items ≡ map seen_leaf l.fn.out.items ++ map (part_leaf l.port) (take l.part-index l.part-items)
