use Rattle.std.proofs.Common.{refl}
use Rattle.text_grammar.specs.Part.{one_by, nothing, stop, both, after, either, many, many_at}
use Rattle.text_grammar.specs.Terminals.{name, number}
use Rattle.fir_ast.specs.Limits.{opened, grow_up_to, judged, number_up_to}
use Rattle.fir_ast.specs.TypeGrammar.{width, sized, plain_field, flipped_field, field_after, field, further_field, fields, bundle, base, vector, ty_in, ty_inside, ty}
use Rattle.fir_expr.proofs.examples.types_work_out.Goals as goal

pub returns : goal.returns
unfolding one_by nothing stop both after either many many_at name number opened grow_up_to judged number_up_to width sized plain_field flipped_field field_after field further_field fields bundle base vector ty_in ty_inside ty
returns c = record { without_width = refl; with_width = refl; widest = refl; no_bits = refl; a_clock = refl; a_reset = refl; no_field = refl; two_fields = refl; called_flip = refl; flipped_flip = refl; two_lengths = refl; longest = refl; a_rest = refl }
