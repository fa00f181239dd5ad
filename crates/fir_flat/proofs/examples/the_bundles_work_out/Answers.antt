use Rattle.std.proofs.Common.{refl}
use Rattle.std.specs.Fmt.{digits}
use Rattle.fir_flat.proofs.ExampleTypes.{shape-a_b, shape-b_a}
use Rattle.fir_check.proofs.Unrolled.{unrolled, stmt-Connect, stmt-Invalid}
use Rattle.fir_flat.specs.Modules.{over}
use Rattle.fir_flat.specs.Elaboration.{grounds, invalid_parts, connect_parts, connect_part}
use Rattle.fir_flat.specs.Values.{value, field_of, in_place, inside, indexed, named}
use Rattle.fir_flat.specs.Shapes.{field_named}
use Rattle.fir_flat.proofs.examples.the_bundles_work_out.Goals as goal

pub returns : goal.returns
unfolding over digits
returns c = record {
  names = simp (shape-a_b, shape-b_a, unrolled, stmt-Connect, stmt-Invalid) refl;
  statements = simp (shape-a_b, shape-b_a, unrolled, stmt-Connect, stmt-Invalid, grounds, invalid_parts, connect_parts, connect_part, value, field_of, in_place, inside, indexed, named, field_named) refl;
}
