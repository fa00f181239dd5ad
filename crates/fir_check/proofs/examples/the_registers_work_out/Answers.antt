use Rattle.std.proofs.Common.{refl}
use Rattle.fir_check.proofs.Unrolled.{unrolled}
use Rattle.fir_check.proofs.examples.the_registers_work_out.Goals as goal

pub returns : goal.returns
returns c = record {
  unsigned_clock = simp unrolled refl;
  clock_kept = simp unrolled refl;
  signed_reset = simp unrolled refl;
  other_init = simp unrolled refl;
  reset_kept = simp unrolled refl;
  printed = simp unrolled refl;
  signed_enable = simp unrolled refl;
  bundle_printed = simp unrolled refl;
}
