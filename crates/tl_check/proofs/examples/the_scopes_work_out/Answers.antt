use Rattle.std.proofs.Common.{refl}
use Rattle.tl_check.proofs.Unrolled.{unrolled}
use Rattle.tl_check.proofs.examples.the_scopes_work_out.Goals as goal

pub returns : goal.returns
returns c = record {
  own_value = simp unrolled refl;
  behind = simp unrolled refl;
  in_block = simp unrolled refl;
  in_fork = simp unrolled refl;
  past_block = simp unrolled refl;
  past_fork = simp unrolled refl;
  in_the_other_block = simp unrolled refl;
  joined_in_block = simp unrolled refl;
  joined_past_block = simp unrolled refl;
  joined_in_fork = simp unrolled refl;
  joined_in_itself = simp unrolled refl;
  forked_later = simp unrolled refl;
  forked_later_inside = simp unrolled refl;
  forked_first = simp unrolled refl;
  fork_in_fork = simp unrolled refl;
  past_the_scope = simp unrolled refl;
  in_monitor = simp unrolled refl;
}
