use Rattle.std.proofs.Common.{true}
use Rattle.std.specs.Prelude.{codes}
use Rattle.tb_base.proofs.JoinedLemmas.{wrote_next}
use Rattle.fir_ast.specs.Printed.{field_text}
use Rattle.fir_ast.proofs.printing.types.+print_type.Goals as goal

pub put_fields-loop-field-preserved : goal.put_fields-loop-field-preserved
put_fields-loop-field-preserved t c =
    wrote_next (codes ", ") field_text c.args.fields.now c.loop-field.field-index c.field-item.result c.field-item.result true
    c.loop-field.is_first c.args.out.now.items c.loop-field.out.items c.put_gap.new.out.items c.put_field.new.out.items
    c.loop-field-test.true c.field-item.is c.loop-field.invariant c.in_ok-put_gap.ensures.ok c.in_ok-put_field.ensures
