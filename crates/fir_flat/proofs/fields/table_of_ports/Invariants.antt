use Rattle.std.proofs.Common.{drop}
use Rattle.fir_flat.specs.Shapes.{ports_shape}
use Rattle.fir_flat.specs.Fields.{types_listed, Covers}
use Rattle.fir_flat.proofs.fields.table_of_ports.Given as goal

abbrev pub invariant-loop-port : goal.invariant-loop-port
invariant-loop-port l = Covers (types_listed l.list.listed.items) (ports_shape l.ports) (ports_shape (drop l.port-index l.ports)) l.table
