use Rattle.std.proofs.Common.{refl}
use Rattle.std.specs.Int.Count.{count_leading_zeros}
use Rattle.net_core.proofs.Trees.{of_declare, of_set, at_read, at_lit, at_apply, at_select}
use Rattle.net_core.proofs.examples.the_widths_work_out.Goals as goal

pub returns : goal.returns
unfolding count_leading_zeros
returns c = record {
  zero_in_one_bit = refl;
  largest_of_eight = refl;
  least_of_nine = refl;
  with_sign = refl;
  least_with_sign = refl;
  below_that = refl;
  carry = simp (at_read, at_lit, at_apply) refl;
  capped = simp (at_read, at_lit, at_apply) refl;
  widest = simp (at_read, at_lit, at_select) refl;
  no_least_width = refl;
  sum_too_wide = simp (at_read, at_apply) refl;
  sum_fits = simp (at_read, at_apply) refl;
  no_such_bit = simp (at_read, at_apply) refl;
  high_bit = simp (at_read, at_apply) refl;
  wide_condition = simp (at_read, at_apply) refl;
  too_small_a_width = simp at_lit refl;
  zero_without_bits = simp at_lit refl;
  uses_of_reset = simp (of_declare, of_set) refl;
  wide_first = refl;
  least_first = refl;
}
