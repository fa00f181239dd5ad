use Rattle.std.proofs.Common.{◌≡◌, ◌++◌, take}
use Rattle.std.specs.List.{flat_map}
use Rattle.net_design.specs.Designs.{ports_of}
use Rattle.out_text.specs.Summary.{port_text}
use Rattle.out_text.proofs.outline.put_ports.Given as goal

abbrev pub invariant-loop-k : goal.invariant-loop-k
invariant-loop-k l = l.out.items ≡ l.initial.out.items ++ flat_map (port_text l.design.elab) (take l.k (ports_of l.design.elab))
