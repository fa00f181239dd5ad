use Rattle.std.proofs.Common.{refl}
use Rattle.fir_flat.specs.Values.{chosen}
use Rattle.fir_flat.specs.Resolving.{Refers}
use Rattle.fir_flat.proofs.MuxFacts.{refers_mux}
use Rattle.fir_flat.proofs.LookedUp.{refused}
use Rattle.fir_flat.proofs.resolve.choose.Goals as goal

pub returns-in_err-partners : goal.returns-in_err-partners
returns-in_err-partners c x y z hx hy hz =
    refused c.from_residual.result _ (Refers (chosen x y z c.args.nums)) c.from_residual.ensures.1

pub same-nums : goal.same-nums
same-nums c = refl

pub returns-in_err-worth : goal.returns-in_err-worth
returns-in_err-worth c x y z hx hy hz =
    refused c.from_residual-in_err-worth.result _ (Refers (chosen x y z c.args.nums)) c.from_residual-in_err-worth.ensures.1

pub returns : goal.returns
returns c x y z hx hy hz =
    refers_mux x y z c.args.cond c.args.first c.args.second c.in_ok-worth.worth c.in_ok-partners.partners.items c.args.nums hx hy hz
    c.in_ok-partners.ensures c.in_ok-worth.ensures
