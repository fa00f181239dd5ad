use Rattle.std.proofs.Common.{drop}
use Rattle.fir_flat.specs.Shapes.{fields_shape}
use Rattle.fir_flat.specs.Fields.{types_listed, Covers}
use Rattle.fir_flat.proofs.fields.table_of_fields.Given as goal

abbrev pub invariant-loop-field : goal.invariant-loop-field
invariant-loop-field l = Covers (types_listed l.list.listed.items) (fields_shape l.fields) (fields_shape (drop l.field-index l.fields)) l.table
