use Rattle.std.proofs.Common.{refl}
use Rattle.tl_check.proofs.Unrolled.{unrolled}
use Rattle.tl_drivers.proofs.examples.the_rows_work_out.Goals as goal

pub returns : goal.returns
returns c = record {
  enqueued = simp unrolled refl;
  enqueued_now = simp unrolled refl;
  dequeued_later = simp unrolled refl;
  dequeued_now = simp unrolled refl;
  invalid = simp unrolled refl;
  reset_of_three = simp unrolled refl;
  sequence = simp unrolled refl;
  dequeued_sequence = simp unrolled refl;
  no_values = simp unrolled refl;
  plain = simp unrolled refl;
}
