use Rattle.std.proofs.Common.{◌≡◌, ◌≤◌, ◌+◌, drop}
use Rattle.fir_flat.specs.Counts.{cut}
use Rattle.fir_flat.specs.Shapes.{fields_shape}
use Rattle.fir_flat.specs.Measures.{facing}
use Rattle.fir_flat.proofs.sizes.+facing.Given as goal

abbrev pub invariant-facing_fields-loop-field : goal.invariant-facing_fields-loop-field
invariant-facing_fields-loop-field l = record { counted : cut (l.total + facing l.against (fields_shape (drop l.field-index l.fields))) ≡ cut (facing l.against (fields_shape l.fields)); low : l.total ≤ 4194305 }
