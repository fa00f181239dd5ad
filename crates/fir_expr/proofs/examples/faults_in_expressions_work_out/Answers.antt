use Rattle.std.proofs.Common.{refl}
use Rattle.text_grammar.specs.Part.{one_by, nothing, unless, stop, both, after, either}
use Rattle.text_grammar.specs.Terminals.{name, number}
use Rattle.fir_ast.specs.Limits.{opened, grow_up_to, judged, number_up_to}
use Rattle.fir_ast.specs.TypeGrammar.{width}
use Rattle.fir_ast.specs.ExprGrammar.{negated, literal_value, literal, dotted, fixed_index, computed_index, index, suffix, reference_in, after_commas, operands, operation, literal_or, operation_or, expr_in, expr_inside, reference_from, reference, expr_from, expr}
use Rattle.fir_expr.proofs.examples.faults_in_expressions_work_out.Goals as goal

pub returns : goal.returns
unfolding one_by nothing unless stop both after either name number opened grow_up_to judged number_up_to width negated literal_value literal dotted fixed_index computed_index index suffix reference_in after_commas operands operation literal_or operation_or expr_in expr_inside reference_from reference expr_from expr
returns c = record { nothing_there = refl; a_number = refl; a_wide_number = refl; partial_connect = refl; partial_connect_inside = refl; minus_of_uint = refl; minus_text_of_uint = refl; minus_before_text = refl; letter_x = refl; no_digit = refl; no_digit_of_base = refl; empty_text = refl; text_too_wide = refl; minus_text_too_wide = refl; width_too_wide = refl; no_value = refl; one_number_short = refl; one_operand_more = refl; number_as_operand = refl; second_paren = refl; second_index = refl; second_suffix = refl; suffix_33 = refl }
