use Rattle.std.proofs.Common.{◌≡◌, ◌*◌, ◌∙◌, ap, arith, false, true}
use Rattle.fir_flat.specs.Counts.{cut}
use Rattle.fir_flat.specs.Shapes.{Shape}
use Rattle.fir_flat.specs.Measures.{facing, driven}
use Rattle.fir_flat.proofs.Cutting.{cut_product}
use Rattle.fir_flat.proofs.own.connect_weight.Goals as goal

pub returns : goal.returns
returns c m e w v =
    let a : c.product-along.result ≡ cut (facing false m.ty * driven m e.nodes)
    = cut_product c.facing.result c.driven_weight.result c.product-along.result (facing false m.ty) (driven m e.nodes) c.product-along.ensures
    (c.facing.ensures ∙ ap (λ (t : Shape). cut (facing false t)) w.kind) (c.driven_weight.ensures m e.nodes w v.nodes) in
    let b : c.product-back.result ≡ cut (facing true m.ty * driven e m.nodes)
    = cut_product c.facing-2.result c.driven_weight-2.result c.product-back.result (facing true m.ty) (driven e m.nodes) c.product-back.ensures
    (c.facing-2.ensures ∙ ap (λ (t : Shape). cut (facing true t)) w.kind) (c.driven_weight-2.ensures e m.nodes v w.nodes) in
    omega (arith, a, b, c.sum.ensures)
