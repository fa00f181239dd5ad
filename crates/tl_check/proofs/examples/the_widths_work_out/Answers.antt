use Rattle.std.proofs.Common.{refl}
use Rattle.tl_check.proofs.Unrolled.{unrolled}
use Rattle.tl_check.proofs.examples.the_widths_work_out.Goals as goal

pub returns : goal.returns
returns c = record {
  greatest = simp unrolled refl;
  signed_greatest = simp unrolled refl;
  signed_past = simp unrolled refl;
  signed_least = simp unrolled refl;
  signed_below = simp unrolled refl;
  minus_at_unsigned = simp unrolled refl;
  no_bits = simp unrolled refl;
  no_bits_one = simp unrolled refl;
  no_bits_minus = simp unrolled refl;
  no_bits_minus_one = simp unrolled refl;
  sum = simp unrolled refl;
  minus_minus = simp unrolled refl;
}
