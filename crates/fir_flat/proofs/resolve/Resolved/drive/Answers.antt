use Rattle.std.proofs.Common.{◌≡◌, ◌<◌, ◌++◌, subst, arith, OnOk}
use Rattle.fir_flat.specs.Shapes.{size}
use Rattle.fir_flat.proofs.resolve.Resolved.drive.Goals as goal

pub returns : goal.returns
returns c v h =
    let low : c.args.k < size v.ty = omega (arith, h.sized, c.if-from-self.false) in
    subst (λ x. OnOk c.drive.result (c.drive.new.out.items ≡ c.args.out.now.items ++ x)) (h.drive c.args.line c.args.k c.args.value.now low) c.drive.ensures
