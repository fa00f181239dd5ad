use Rattle.std.proofs.Common.{subst}
use Rattle.fir_flat.specs.Shapes.{Shape, field_named}
use Rattle.fir_flat.specs.Kinds.{Finds}
use Rattle.fir_flat.proofs.InnerParts.{field_lies}
use Rattle.fir_flat.proofs.resolve.resolve_field.Goals as goal

pub returns : goal.returns
returns c v h =
    c.put_in_place.ensures v (field_named c.args.name.now v.ty) h
    (subst (λ (t : Shape). Finds (field_named c.args.name.now t) c.field-place.result) h.ty c.field-place.ensures)
    (field_lies c.args.name.now v.ty)
