use Rattle.std.proofs.Common.{sym, subst, List, ℕ, drop, ◌+◌, ◌≡◌}
use Rattle.fir_ast.specs.declared.tree.Ty.TheViews.{out-Field}
use Rattle.fir_flat.specs.Shapes.{Shape, shape_of, field, fields_shape}
use Rattle.fir_flat.specs.Fields.{types_listed, Covers}
use Rattle.fir_flat.proofs.FieldFacts.{fields_at}
use Rattle.fir_flat.proofs.fields.table_of_fields.Goals as goal

pub loop-field-init : goal.loop-field-init
loop-field-init c = c.new-table.ensures (types_listed c.args.list.now.listed.items) (fields_shape c.args.fields.now)

pub loop-field-preserved : goal.loop-field-preserved
loop-field-preserved c =
    let rest : Shape = fields_shape (drop (c.loop-field.field-index + 1) c.args.fields.now) in
    let name : c.bytes.result.now ≡ (out-Field c.field-item.result).name = c.bytes.ensures in
    let at : Covers (types_listed c.args.list.now.listed.items) (fields_shape c.args.fields.now) (field (out-Field c.field-item.result).flip (out-Field c.field-item.result).name (shape_of (out-Field c.field-item.result).ty) rest) c.loop-field.table
    = subst (λ (t : Shape). Covers (types_listed c.args.list.now.listed.items) (fields_shape c.args.fields.now) t c.loop-field.table)
    (fields_at c.args.fields.now c.loop-field.field-index c.field-item.result c.loop-field-test.true c.field-item.is) c.loop-field.invariant in
    c.in_ok-add.ensures (types_listed c.args.list.now.listed.items) (fields_shape c.args.fields.now) rest c.member_of-of.ensures
    (subst (λ (x : List ℕ). Covers (types_listed c.args.list.now.listed.items) (fields_shape c.args.fields.now) (field (out-Field c.field-item.result).flip x (shape_of (out-Field c.field-item.result).ty) rest) c.loop-field.table) (sym name) at)
