use Rattle.std.proofs.Common.{◌≡◌, map, take}
use Rattle.fir_check.specs.Scopes.{port_field}
use Rattle.fir_check.proofs.instance_types.fields_of_ports.Given as goal

abbrev pub invariant-loop-port : goal.invariant-loop-port
invariant-loop-port l = l.fields ≡ map port_field (take l.port-index l.ports)
