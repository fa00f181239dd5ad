use Rattle.std.proofs.Common.{◌≡◌, ◌-◌, length, drop}
use Rattle.fir_flat.specs.Shapes.{fields_shape}
use Rattle.fir_flat.proofs.same_type.+same_type.Given as goal

abbrev pub invariant-same_fields-loop-k : goal.invariant-same_fields-loop-k
invariant-same_fields-loop-k l = record {
  long : length l.fields ≡ length l.others;
  same : fields_shape (drop l.k l.fields) ≡ fields_shape (drop l.k l.others) → fields_shape l.fields ≡ fields_shape l.others;
}

abbrev pub decreases-same_fields-loop-k : goal.decreases-same_fields-loop-k
decreases-same_fields-loop-k l = length l.fields - l.k
