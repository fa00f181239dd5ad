use Rattle.std.proofs.Common.{refl}
use Rattle.tl_check.proofs.Unrolled.{unrolled}
use Rattle.tl_check.proofs.examples.the_rules_work_out.Goals as goal

pub returns : goal.returns
returns c = record {
  empty = refl;
  kept = simp unrolled refl;
  poke_nowhere = simp unrolled refl;
  peek_nowhere = simp unrolled refl;
  expect_nowhere = simp unrolled refl;
  no_reset = simp unrolled refl;
  wide_reset = simp unrolled refl;
  output_poked = simp unrolled refl;
  poked_too_wide = simp unrolled refl;
  expected_too_wide = simp unrolled refl;
  enqueued_too_wide = simp unrolled refl;
  variable = simp unrolled refl;
  variable_set = simp unrolled refl;
  variable_peeked = simp unrolled refl;
  handle = simp unrolled refl;
  handle_at_a_step = simp unrolled refl;
  monitor_joined = simp unrolled refl;
  monitor_joined_at_a_step = simp unrolled refl;
  main_in_monitor = simp unrolled refl;
  main_in_inherited_monitor = simp unrolled refl;
  no_valid_ready = simp unrolled refl;
  wrong_way = simp unrolled refl;
  no_step = simp unrolled refl;
  reset_of_none = simp unrolled refl;
  unknown_before_variable = simp unrolled refl;
  output_before_width = simp unrolled refl;
  variable_before_driver = simp unrolled refl;
  first_statement = simp unrolled refl;
  statement_before_its_block = simp unrolled refl;
  taken_before_other = simp unrolled refl;
  in_text_order = simp unrolled refl;
}
