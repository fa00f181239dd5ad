use Rattle.std.proofs.Common.{ap, subst}
use Rattle.fir_flat.specs.Shapes.{Shape, field_named}
use Rattle.fir_flat.specs.Values.{Bound}
use Rattle.fir_flat.specs.Kinds.{Finds}
use Rattle.fir_flat.proofs.scope.Scope.field.Goals as goal

pub returns : goal.returns
returns c =
    subst (λ (t : Shape). Finds (field_named c.args.field.now t) c.field.result) (ap (λ (b : Bound). b.ty) c.find.ensures) c.field.ensures
