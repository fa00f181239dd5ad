use Rattle.std.proofs.Common.{refl}
use Rattle.tl_threads.proofs.NameFacts.{looked_up}
use Rattle.tl_threads.proofs.examples.the_values_work_out.Goals as goal

pub returns : goal.returns
returns c = record {
  sum_wraps = refl;
  difference_wraps = refl;
  product_wraps = refl;
  minus_wraps = refl;
  minus_nothing = refl;
  bits = refl;
  some_bits = refl;
  other_bits = refl;
  shifted_out = refl;
  shifted_far = refl;
  shifted_farther = refl;
  shifted_down = refl;
  shifted_down_far = refl;
  shifted_down_farther = refl;
  no_sign = refl;
  not_less = refl;
  no_more = refl;
  not_greater = refl;
  no_less = refl;
  equal = refl;
  not_equal = refl;
  nested = simp looked_up refl;
  no_number = simp looked_up refl;
  postfix = refl;
  worked_out = refl;
}
