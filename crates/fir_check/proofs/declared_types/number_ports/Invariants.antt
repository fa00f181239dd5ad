use Rattle.std.proofs.Common.{flat_map, take}
use Rattle.fir_check.specs.Numbers.{Gains, port_types}
use Rattle.fir_check.proofs.declared_types.number_ports.Given as goal

abbrev pub invariant-loop-port : goal.invariant-loop-port
invariant-loop-port l = Gains l.initial.table l.table (flat_map port_types (take l.port-index l.ports)) l.initial.numbers.items l.numbers.items
