use Rattle.std.proofs.Common.{◌≡◌, ◌++◌, take}
use Rattle.std.specs.List.{flat_map}
use Rattle.fir_ast.specs.Printed.{port_text}
use Rattle.fir_ast.proofs.printing.put_ports.Given as goal

abbrev pub invariant-loop-port : goal.invariant-loop-port
invariant-loop-port l = l.out.items ≡ l.initial.out.items ++ flat_map port_text (take l.port-index l.ports)
