use Rattle.std.proofs.Common.{subst}
use Rattle.fir_flat.specs.Shapes.{Shape, field_named}
use Rattle.fir_flat.specs.Kinds.{Finds}
use Rattle.fir_flat.proofs.weights.weigh_field.Goals as goal

pub returns : goal.returns
returns c = λ m h.
    c.weigh_in_place.ensures (field_named c.args.name.now m.ty) m
    (subst (λ (t : Shape). Finds (field_named c.args.name.now t) c.field.result) h.kind c.field.ensures) h
