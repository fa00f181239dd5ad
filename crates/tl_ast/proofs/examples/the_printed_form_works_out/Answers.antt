use Rattle.std.proofs.Common.{refl}
use Rattle.std.specs.Fmt.{digits}
use Rattle.tl_ast.specs.Printed.{printed_test}
use Rattle.tl_ast.proofs.Rows.{num_text, var_text, neg_text, two_text, poke_text, peek_text, expect_text, step_text, let_text, set_text, branches_text, while_text, repeat_text, fork_text, join_text, joinstep_text, driver_text, reset_text}
use Rattle.tl_ast.proofs.examples.the_printed_form_works_out.Goals as goal

pub returns : goal.returns
unfolding digits printed_test
returns c = record {
  whole_test = simp (num_text, poke_text, step_text, expect_text) refl;
  empty_test = refl;
  sum_of_sums = simp (var_text, two_text) refl;
  sum_on_the_right = simp (var_text, two_text) refl;
  shifts_of_shifts = simp (var_text, two_text) refl;
  sum_in_product = simp (var_text, two_text) refl;
  product_in_sum = simp (var_text, two_text) refl;
  bits_from_loosest = simp (num_text, var_text, two_text) refl;
  bits_from_tightest = simp (var_text, two_text) refl;
  minus_of_sum = simp (var_text, neg_text, two_text) refl;
  minus_of_minus = simp (num_text, neg_text) refl;
  minus_in_product = simp (var_text, neg_text, two_text) refl;
  comparison_of_bits = simp (var_text, two_text) refl;
  comparison_on_the_left = simp (var_text, two_text) refl;
  comparison_on_the_right = simp (var_text, two_text) refl;
  comparison_in_sum = simp (var_text, two_text) refl;
  poke = simp (var_text, neg_text, poke_text) refl;
  peek = simp peek_text refl;
  peek_into = simp peek_text refl;
  expect = simp (var_text, two_text, expect_text) refl;
  step = simp step_text refl;
  let_and_set = simp (num_text, var_text, let_text, set_text) refl;
  one_branch = simp (var_text, step_text, branches_text) refl;
  both_branches = simp (var_text, step_text, while_text, branches_text) refl;
  empty_while = simp (var_text, two_text, while_text) refl;
  repeated = simp (num_text, step_text, repeat_text) refl;
  forked = simp fork_text refl;
  forked_main = simp fork_text refl;
  forked_monitor = simp fork_text refl;
  joins = simp (join_text, joinstep_text) refl;
  reset = simp reset_text refl;
  enqueued = simp (var_text, two_text, driver_text) refl;
  enqueued_now = simp (var_text, driver_text) refl;
  enqueued_in_turn = simp (num_text, driver_text) refl;
  dequeued = simp (var_text, driver_text) refl;
  dequeued_now = simp (var_text, driver_text) refl;
  dequeued_in_turn = simp driver_text refl;
  nothing_dequeued = simp driver_text refl;
}
