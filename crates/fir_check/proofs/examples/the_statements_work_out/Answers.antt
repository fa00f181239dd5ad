use Rattle.std.proofs.Common.{refl, ◌||◌, ◌&&◌, not, is_none}
use Rattle.std.specs.List.{list_any, list_all}
use Rattle.tb_base.specs.Row.{signs_fit, same_sign}
use Rattle.std.specs.Prelude.{option_and_then, option_map}
use Rattle.fir_check.specs.Rules.{unknown_at, wrong_at, flow_at, clock_at, in_some_use, wrong_stmt, clock_stmt, wrong_reset, clock_in_reset, unknown_level, wrong_level, clock_level, wrong_operands, is_sink, gives_back, is_condition, is_operand, is_value, has_no_clock, uses, fails, differ, signs_differ}
use Rattle.fir_check.specs.Scopes.{somewhere, judged, meaning_of, judged_level, judged_at, level_thing, level_of, broken_inside, applied_thing, operand, is_signed_thing}
use Rattle.fir_check.specs.Types.{over_type, ground_at, signed_at, unsigned_at, clock_at as clock_type_at, is_ground, is_clock, is_signed, is_unsigned, has_flip, holds_clock, leaves, same_shape}
use Rattle.fir_check.proofs.Unrolled.{unrolled}
use Rattle.fir_check.proofs.examples.the_statements_work_out.Goals as goal

pub returns : goal.returns
returns c = record {
  name_seen = simp (unrolled, ◌||◌, ◌&&◌, not, is_none, list_any, list_all, signs_fit, same_sign, over_type, ground_at, signed_at, unsigned_at, clock_type_at, option_and_then, option_map, unknown_at, wrong_at, flow_at, clock_at, in_some_use, wrong_stmt, clock_stmt, wrong_reset, clock_in_reset, unknown_level, wrong_level, clock_level, wrong_operands, is_sink, gives_back, is_condition, is_operand, is_value, has_no_clock, uses, fails, differ, signs_differ, somewhere, judged, meaning_of, judged_level, judged_at, level_thing, level_of, broken_inside, applied_thing, operand, is_signed_thing, is_ground, is_clock, is_signed, is_unsigned, has_flip, holds_clock, leaves, same_shape) refl;
  behind_its_block = simp (unrolled, ◌||◌, ◌&&◌, not, is_none, list_any, list_all, signs_fit, same_sign, over_type, ground_at, signed_at, unsigned_at, clock_type_at, option_and_then, option_map, unknown_at, wrong_at, flow_at, clock_at, in_some_use, wrong_stmt, clock_stmt, wrong_reset, clock_in_reset, unknown_level, wrong_level, clock_level, wrong_operands, is_sink, gives_back, is_condition, is_operand, is_value, has_no_clock, uses, fails, differ, signs_differ, somewhere, judged, meaning_of, judged_level, judged_at, level_thing, level_of, broken_inside, applied_thing, operand, is_signed_thing, is_ground, is_clock, is_signed, is_unsigned, has_flip, holds_clock, leaves, same_shape) refl;
  signed_condition = simp (unrolled, ◌||◌, ◌&&◌, not, is_none, list_any, list_all, signs_fit, same_sign, over_type, ground_at, signed_at, unsigned_at, clock_type_at, option_and_then, option_map, unknown_at, wrong_at, flow_at, clock_at, in_some_use, wrong_stmt, clock_stmt, wrong_reset, clock_in_reset, unknown_level, wrong_level, clock_level, wrong_operands, is_sink, gives_back, is_condition, is_operand, is_value, has_no_clock, uses, fails, differ, signs_differ, somewhere, judged, meaning_of, judged_level, judged_at, level_thing, level_of, broken_inside, applied_thing, operand, is_signed_thing, is_ground, is_clock, is_signed, is_unsigned, has_flip, holds_clock, leaves, same_shape) refl;
  other_shape = simp (unrolled, ◌||◌, ◌&&◌, not, is_none, list_any, list_all, signs_fit, same_sign, over_type, ground_at, signed_at, unsigned_at, clock_type_at, option_and_then, option_map, unknown_at, wrong_at, flow_at, clock_at, in_some_use, wrong_stmt, clock_stmt, wrong_reset, clock_in_reset, unknown_level, wrong_level, clock_level, wrong_operands, is_sink, gives_back, is_condition, is_operand, is_value, has_no_clock, uses, fails, differ, signs_differ, somewhere, judged, meaning_of, judged_level, judged_at, level_thing, level_of, broken_inside, applied_thing, operand, is_signed_thing, is_ground, is_clock, is_signed, is_unsigned, has_flip, holds_clock, leaves, same_shape) refl;
  input_driven = simp (unrolled, ◌||◌, ◌&&◌, not, is_none, list_any, list_all, signs_fit, same_sign, over_type, ground_at, signed_at, unsigned_at, clock_type_at, option_and_then, option_map, unknown_at, wrong_at, flow_at, clock_at, in_some_use, wrong_stmt, clock_stmt, wrong_reset, clock_in_reset, unknown_level, wrong_level, clock_level, wrong_operands, is_sink, gives_back, is_condition, is_operand, is_value, has_no_clock, uses, fails, differ, signs_differ, somewhere, judged, meaning_of, judged_level, judged_at, level_thing, level_of, broken_inside, applied_thing, operand, is_signed_thing, is_ground, is_clock, is_signed, is_unsigned, has_flip, holds_clock, leaves, same_shape) refl;
  wire_driven = simp (unrolled, ◌||◌, ◌&&◌, not, is_none, list_any, list_all, signs_fit, same_sign, over_type, ground_at, signed_at, unsigned_at, clock_type_at, option_and_then, option_map, unknown_at, wrong_at, flow_at, clock_at, in_some_use, wrong_stmt, clock_stmt, wrong_reset, clock_in_reset, unknown_level, wrong_level, clock_level, wrong_operands, is_sink, gives_back, is_condition, is_operand, is_value, has_no_clock, uses, fails, differ, signs_differ, somewhere, judged, meaning_of, judged_level, judged_at, level_thing, level_of, broken_inside, applied_thing, operand, is_signed_thing, is_ground, is_clock, is_signed, is_unsigned, has_flip, holds_clock, leaves, same_shape) refl;
  clock_copied = simp (unrolled, ◌||◌, ◌&&◌, not, is_none, list_any, list_all, signs_fit, same_sign, over_type, ground_at, signed_at, unsigned_at, clock_type_at, option_and_then, option_map, unknown_at, wrong_at, flow_at, clock_at, in_some_use, wrong_stmt, clock_stmt, wrong_reset, clock_in_reset, unknown_level, wrong_level, clock_level, wrong_operands, is_sink, gives_back, is_condition, is_operand, is_value, has_no_clock, uses, fails, differ, signs_differ, somewhere, judged, meaning_of, judged_level, judged_at, level_thing, level_of, broken_inside, applied_thing, operand, is_signed_thing, is_ground, is_clock, is_signed, is_unsigned, has_flip, holds_clock, leaves, same_shape) refl;
}
