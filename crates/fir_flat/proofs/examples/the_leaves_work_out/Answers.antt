use Rattle.std.proofs.Common.{refl}
use Rattle.std.specs.Fmt.{digits}
use Rattle.fir_flat.proofs.Rolled.{shapes}
use Rattle.fir_flat.proofs.ExampleTypes.{shape-a_b, shape-b_a}
use Rattle.fir_flat.proofs.examples.the_leaves_work_out.Goals as goal

pub returns : goal.returns
unfolding digits
returns c = record {
  of_bundle = rw shape-a_b refl;
  flipped_twice = simp (shape-b_a, shapes) refl;
  of_vector = simp (shape-a_b, shapes) refl;
  other_order = rw (shape-a_b, shape-b_a) refl;
}
