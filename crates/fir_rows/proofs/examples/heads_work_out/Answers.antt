use Rattle.std.proofs.Common.{refl}
use Rattle.text_grammar.specs.Part.{one_by, nothing, unless, stop, both, after, either, many, many_at}
use Rattle.text_grammar.specs.Terminals.{name, number}
use Rattle.fir_ast.specs.Limits.{opened, grow_up_to, judged, number_up_to}
use Rattle.fir_ast.specs.TypeGrammar.{width, sized, base, vector, ty_in, ty_inside, ty}
use Rattle.fir_ast.specs.RowGrammar.{port, typed, module_head, circuit_head}
use Rattle.fir_rows.proofs.examples.heads_work_out.Goals as goal

pub returns : goal.returns
unfolding port typed module_head circuit_head one_by nothing unless stop both after either many many_at name number opened grow_up_to judged number_up_to width sized base vector ty_in ty_inside ty
returns c = record { output_line = refl; module_line = refl; circuit_line = refl; annotation = refl; no_annotation_of_a_module = refl }
