use Rattle.std.proofs.Common.{map, take, true}
use Rattle.std.specs.Prelude.{codes}
use Rattle.tb_base.proofs.JoinedLemmas.{Wrote}
use Rattle.fir_ast.specs.Printed.{field_text}
use Rattle.fir_ast.proofs.printing.types.+print_type.Given as goal

abbrev pub invariant-put_fields-loop-field : goal.invariant-put_fields-loop-field
invariant-put_fields-loop-field l = Wrote (codes ", ") true l.initial.out.items l.out.items l.is_first (map field_text (take l.field-index l.fields))
