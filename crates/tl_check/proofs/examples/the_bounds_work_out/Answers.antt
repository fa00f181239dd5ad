use Rattle.std.proofs.Common.{refl}
use Rattle.tl_check.proofs.Unrolled.{unrolled}
use Rattle.tl_check.proofs.examples.the_bounds_work_out.Goals as goal

pub returns : goal.returns
returns c = record {
  statements_of_branches = simp unrolled refl;
  values_of_branches = simp unrolled refl;
  blocks_of_branches = simp unrolled refl;
  forks_of_branches = simp unrolled refl;
  operators_of_branches = simp unrolled refl;
  statements_of_forks = simp unrolled refl;
  values_of_forks = simp unrolled refl;
  blocks_of_forks = simp unrolled refl;
  forks_of_forks = simp unrolled refl;
  operators_of_forks = simp unrolled refl;
  operators_of_signs = simp unrolled refl;
  reset = simp unrolled refl;
}
