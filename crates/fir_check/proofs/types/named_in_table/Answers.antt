use Rattle.std.proofs.Common.{◌∙◌, ◌<◌, Some, sym, ap, length, arith}
use Rattle.fir_check.proofs.Named.{field_none, field_low, field_at}
use Rattle.fir_check.proofs.Shapes.{slot_of}
use Rattle.fir_check.proofs.types.named_in_table.Goals as goal

pub offset_bounds-fields-number : goal.offset_bounds-fields-number
offset_bounds-fields-number c =
    let l : c.in-Some.number < length c.args.fields.now = field_low c.args.fields.now c.args.table.now c.args.name.now c.in-Some.number c.requires (sym c.find.ensures ∙ c.in-Some.is) in omega arith

pub bounds-fields-number : goal.bounds-fields-number
bounds-fields-number c = field_low c.args.fields.now c.args.table.now c.args.name.now c.in-Some.number c.requires (sym c.find.ensures ∙ c.in-Some.is)

pub returns-in-None : goal.returns-in-None
returns-in-None c = sym (field_none c.args.fields.now c.args.table.now c.args.name.now c.requires (sym c.find.ensures ∙ c.in-None.is))

pub returns-in-Some : goal.returns-in-Some
returns-in-Some c =
    ap (λ f. Some (slot_of f)) c.index-fields-number.is
    ∙ field_at c.args.fields.now c.args.table.now c.args.name.now c.in-Some.number c.index-fields-number.result c.requires (sym c.find.ensures ∙ c.in-Some.is)
