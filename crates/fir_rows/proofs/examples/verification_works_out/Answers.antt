use Rattle.std.proofs.Common.{refl}
use Rattle.text_grammar.specs.Part.{one_by, nothing, unless, stop, both, after, either, many, many_at}
use Rattle.text_grammar.specs.Terminals.{name, number}
use Rattle.fir_ast.specs.Limits.{opened, grow_up_to, judged, number_up_to}
use Rattle.fir_ast.specs.TypeGrammar.{width, sized, base, vector, ty_in, ty_inside, ty}
use Rattle.fir_ast.specs.ExprGrammar.{dotted, index, suffix, reference_in, literal_or, operation_or, expr_in, reference_from, expr_from, expr}
use Rattle.fir_ast.specs.RowGrammar.{row_from, two_words, name_row, with_name, named, wire, node, instance, typed, typed_operand, register, register_reset, with_reset, some_reset, reset_place, reset_below, reset_line, reset, reset_in_parens, reset_bare, reset_pair, sink_row, sink_marked, marked_end, sink_end, is_invalid, invalidated, driven, connected, connect, dropped, invalidate, ended, operand, last, skipped, verification, arguments, printing, stopping, checked, told, stopped, two_operands, three_operands, value, text_token, label, some_label, closes}
use Rattle.fir_rows.proofs.examples.verification_works_out.Goals as goal

pub returns : goal.returns
unfolding row_from two_words name_row with_name named wire node instance typed typed_operand register register_reset with_reset some_reset reset_place reset_below reset_line reset reset_in_parens reset_bare reset_pair sink_row sink_marked marked_end sink_end is_invalid invalidated driven connected connect dropped invalidate ended operand last skipped verification arguments printing stopping checked told stopped two_operands three_operands value text_token label some_label closes one_by nothing unless stop both after either many many_at name number opened grow_up_to judged number_up_to width sized base vector ty_in ty_inside ty dotted index suffix reference_in literal_or operation_or expr_in reference_from expr_from expr
returns c = record { printed = refl; stopped = refl; asserted = refl; assumed = refl; covered = refl; string_too_early = refl; string_too_late = refl; number_too_wide = refl; label_without_word = refl }
