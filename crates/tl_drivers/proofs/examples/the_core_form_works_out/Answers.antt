use Rattle.std.proofs.Common.{refl}
use Rattle.tl_check.proofs.Unrolled.{unrolled}
use Rattle.tl_drivers.proofs.examples.the_core_form_works_out.Goals as goal

pub returns : goal.returns
returns c = record {
  empty = refl;
  in_branches = simp unrolled refl;
  in_a_fork = simp unrolled refl;
  own_handle_left = simp unrolled refl;
  own_handle_taken = simp unrolled refl;
}
