use Rattle.std.proofs.Common.{arith, subst, IfOk}
use Rattle.fir_flat.specs.Resolving.{Resolves}
use Rattle.fir_flat.proofs.resolve.ground_worth.Goals as goal

pub returns : goal.returns
returns c v h =
    let s : Resolves v c.in_ok-settled.settled = subst (λ r. IfOk r (Resolves v)) c.in_ok-settled.was (c.settled.ensures v h) in
    s.part 0 (omega (arith, s.sized, c.if-settled-eq0.false))
