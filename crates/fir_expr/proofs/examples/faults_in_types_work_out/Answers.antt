use Rattle.std.proofs.Common.{refl}
use Rattle.text_grammar.specs.Part.{one_by, nothing, stop, both, after, either, many, many_at}
use Rattle.text_grammar.specs.Terminals.{name, number}
use Rattle.fir_ast.specs.Limits.{opened, grow_up_to, judged, number_up_to}
use Rattle.fir_ast.specs.TypeGrammar.{width, sized, plain_field, flipped_field, field_after, field, further_field, fields, bundle, base, vector, ty_in, ty_inside, ty}
use Rattle.fir_expr.proofs.examples.faults_in_types_work_out.Goals as goal

pub returns : goal.returns
unfolding one_by nothing stop both after either many many_at name number opened grow_up_to judged number_up_to width sized plain_field flipped_field field_after field further_field fields bundle base vector ty_in ty_inside ty
returns c = record { nothing_there = refl; another_word = refl; too_wide = refl; far_too_wide = refl; too_long = refl; no_number = refl; clock_with_width = refl; an_analog = refl; a_const = refl; an_enumeration = refl; a_deep_enumeration = refl; a_deep_brace = refl; no_type_inside = refl; no_field_behind_comma = refl; second_brace = refl; second_length = refl; length_33 = refl }
