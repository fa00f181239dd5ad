use Rattle.std.proofs.Common.{subst}
use Rattle.fir_flat.specs.Shapes.{field_named}
use Rattle.fir_flat.specs.Values.{Bound, named, bound_named}
use Rattle.fir_flat.specs.Kinds.{seen}
use Rattle.fir_flat.specs.Resolving.{Refers}
use Rattle.fir_flat.proofs.InnerParts.{field_lies}
use Rattle.fir_flat.proofs.resolve.resolve_field_named.Goals as goal

pub returns : goal.returns
returns c =
    let b : Bound = bound_named c.args.bundle.now (seen c.args.known.now) in
    c.put_in_place.ensures (named b) (field_named c.args.name.now b.ty)
    (subst (λ (x : Bound). Refers (named x) c.resolve_name.result) c.find.ensures c.resolve_name.ensures)
    c.field-place.ensures (field_lies c.args.name.now b.ty)
