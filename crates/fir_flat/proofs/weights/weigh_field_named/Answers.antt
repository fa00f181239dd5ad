use Rattle.std.proofs.Common.{◌≡◌, ◌∙◌, ap, arith}
use Rattle.fir_flat.specs.Shapes.{field_named}
use Rattle.fir_flat.specs.Values.{Bound, bound_named}
use Rattle.fir_flat.specs.Kinds.{seen, Weighs, name_measure}
use Rattle.fir_flat.proofs.weights.weigh_field_named.Goals as goal

pub returns : goal.returns
returns c =
    let b : Bound = bound_named c.args.bundle.now (seen c.args.known.now) in
    let nodes : c.weigh_name.result.nodes ≡ 1 = c.weigh_name.ensures.nodes in
    let times : c.weigh_name.result.times ≡ 1 = c.weigh_name.ensures.times in
    let round : c.weigh_name.result.round ≡ 0 = c.weigh_name.ensures.round in
    let weighs : Weighs (name_measure b) c.weigh_name.result
    = record {
      kind = c.weigh_name.ensures.kind ∙ ap (λ (x : Bound). x.ty) c.find.ensures;
      flow = c.weigh_name.ensures.flow ∙ ap (λ (x : Bound). x.flow) c.find.ensures;
      nodes = omega (arith, nodes);
      times = omega (arith, times);
      round = omega (arith, round);
    } in
    c.weigh_in_place.ensures (field_named c.args.name.now b.ty) (name_measure b) c.field-place.ensures weighs
