use Rattle.std.proofs.Common.{arith}
use Rattle.fir_flat.specs.Measures.{reached, driven}
use Rattle.fir_flat.proofs.Cutting.{cut_product}
use Rattle.fir_flat.proofs.own.invalid_weight.Goals as goal

pub returns : goal.returns
returns c m w =
    cut_product c.reached_parts.result c.driven_weight.result c.product.result (reached m) (driven m 0) c.product.ensures
    (c.reached_parts.ensures m w) (c.driven_weight.ensures m 0 w (omega arith))
