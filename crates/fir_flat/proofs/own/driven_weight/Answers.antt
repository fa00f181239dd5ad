use Rattle.std.proofs.Common.{◌≡◌, ◌+◌, ◌*◌, arith}
use Rattle.fir_flat.specs.Counts.{cut}
use Rattle.fir_flat.proofs.Cutting.{cut_product}
use Rattle.fir_flat.proofs.own.driven_weight.Goals as goal

pub returns : goal.returns
returns c m n w e =
    let a : c.sum.result ≡ cut (1 + n) = omega (arith, c.sum.ensures, e) in
    let p : c.product.result ≡ cut (m.times * (1 + n)) = cut_product c.args.sink.times c.sum.result c.product.result m.times (1 + n) c.product.ensures w.times a in
    omega (arith, p, w.round, c.sum-2.ensures)
