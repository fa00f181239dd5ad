use Rattle.std.proofs.Common.{refl}
use Rattle.text_grammar.specs.Part.{one_by, nothing, unless, stop, both, after, either}
use Rattle.text_grammar.specs.Terminals.{name, number}
use Rattle.fir_ast.specs.Limits.{opened, grow_up_to, judged, number_up_to}
use Rattle.fir_ast.specs.TypeGrammar.{width}
use Rattle.fir_ast.specs.ExprGrammar.{negated, literal_value, literal, dotted, fixed_index, computed_index, index, suffix, reference_in, after_commas, operands, operation, literal_or, operation_or, expr_in, expr_inside, reference_from, reference, expr_from, expr}
use Rattle.fir_expr.proofs.examples.expressions_work_out.Goals as goal

pub returns : goal.returns
unfolding one_by nothing unless stop both after either name number opened grow_up_to judged number_up_to width negated literal_value literal dotted fixed_index computed_index index suffix reference_in after_commas operands operation literal_or operation_or expr_in expr_inside reference_from reference expr_from expr
returns c = record { fixed_index = refl; computed_index = refl; called_uint = refl; called_add = refl; no_operation = refl; sized_literal = refl; below_zero = refl; minus_zero = refl; hexadecimal = refl; binary_below_zero = refl; octal = refl; minus_zero_text = refl; two_operands = refl; two_numbers = refl; three_operands = refl; nested = refl }
