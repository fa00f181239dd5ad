use Rattle.std.proofs.Common.{◌≡◌, ◌≤◌, ◌+◌, ◌-◌, length, drop}
use Rattle.fir_flat.specs.Counts.{cut}
use Rattle.fir_flat.specs.Shapes.{field_named, fields_shape}
use Rattle.fir_flat.proofs.kinds.named_in.Given as goal

abbrev pub invariant-loop-k : goal.invariant-loop-k
invariant-loop-k l = record {
  before : cut (l.before + (field_named l.name (fields_shape (drop l.k l.fields))).before) ≡ cut (field_named l.name (fields_shape l.fields)).before;
  low : l.before ≤ 4194305;
  flip : (field_named l.name (fields_shape (drop l.k l.fields))).flip ≡ (field_named l.name (fields_shape l.fields)).flip;
  of : (field_named l.name (fields_shape (drop l.k l.fields))).of ≡ (field_named l.name (fields_shape l.fields)).of;
}

abbrev pub decreases-loop-k : goal.decreases-loop-k
decreases-loop-k l = length l.fields - l.k
