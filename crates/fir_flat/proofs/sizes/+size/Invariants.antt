use Rattle.std.proofs.Common.{◌≡◌, ◌≤◌, ◌+◌, drop}
use Rattle.fir_flat.specs.Counts.{cut}
use Rattle.fir_flat.specs.Shapes.{size, fields_shape}
use Rattle.fir_flat.proofs.sizes.+size.Given as goal

abbrev pub invariant-size_of_fields-loop-field : goal.invariant-size_of_fields-loop-field
invariant-size_of_fields-loop-field l = record { counted : cut (l.total + size (fields_shape (drop l.field-index l.fields))) ≡ cut (size (fields_shape l.fields)); low : l.total ≤ 4194305 }
