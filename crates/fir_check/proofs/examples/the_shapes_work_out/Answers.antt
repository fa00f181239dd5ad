use Rattle.std.proofs.Common.{refl}
use Rattle.fir_check.proofs.Unrolled.{unrolled}
use Rattle.fir_check.proofs.examples.the_shapes_work_out.Goals as goal

pub returns : goal.returns
returns c = record {
  any_order = simp unrolled refl;
  fewer_fields = simp unrolled refl;
  other_flip = simp unrolled refl;
  other_sign = simp unrolled refl;
  other_length = simp unrolled refl;
  empty_vectors = simp unrolled refl;
  flip_inside = simp unrolled refl;
  clock_inside = simp unrolled refl;
  twice = simp unrolled refl;
}
