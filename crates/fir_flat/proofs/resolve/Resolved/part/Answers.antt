use Rattle.std.proofs.Common.{◌≡◌, ◌<◌, subst, arith, IfOk}
use Rattle.fir_flat.specs.Shapes.{size}
use Rattle.fir_flat.proofs.resolve.Resolved.part.Goals as goal

pub returns : goal.returns
returns c v h =
    let low : c.args.k < size v.ty = omega (arith, h.sized, c.if-from-self.false) in
    subst (λ x. IfOk c.part.result (λ e. e ≡ x)) (h.part c.args.k low) c.part.ensures
