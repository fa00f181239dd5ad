use Rattle.std.proofs.Common.{refl}
use Rattle.fir_check.proofs.Unrolled.{unrolled}
use Rattle.fir_check.proofs.examples.the_operands_work_out.Goals as goal

pub returns : goal.returns
returns c = record {
  mixed_signs = simp unrolled refl;
  one_sign = simp unrolled refl;
  one_unknown = simp unrolled refl;
  clock_operand = simp unrolled refl;
  signed_amount = simp unrolled refl;
  signed_shifted = simp unrolled refl;
  other_branches = simp unrolled refl;
  same_branches = simp unrolled refl;
  signed_choice = simp unrolled refl;
  flipped_branches = simp unrolled refl;
  clock_branches = simp unrolled refl;
  clock_choice = simp unrolled refl;
  index_within = simp unrolled refl;
  index_past = simp unrolled refl;
  field_of_none = simp unrolled refl;
  field_missing = simp unrolled refl;
  field_there = simp unrolled refl;
  reset_index = simp unrolled refl;
}
