use Rattle.std.proofs.Common.{◌≡◌, refl, subst, IfOk}
use Rattle.fir_flat.specs.Values.{chosen}
use Rattle.fir_flat.specs.Worths.{ends_of}
use Rattle.fir_flat.specs.Resolving.{Refers, Resolves}
use Rattle.fir_flat.proofs.LookedUp.{refused}
use Rattle.fir_flat.proofs.resolve.resolve_mux.Goals as goal

pub returns-in_err-condition : goal.returns-in_err-condition
returns-in_err-condition c x y z hx hy hz =
    refused c.from_residual.result _ (Refers (chosen x y z c.args.nums)) c.from_residual.ensures.1

pub returns-in_err-first : goal.returns-in_err-first
returns-in_err-first c x y z hx hy hz =
    refused c.from_residual-in_err-first.result _ (Refers (chosen x y z c.args.nums)) c.from_residual-in_err-first.ensures.1

pub returns-in_err-second : goal.returns-in_err-second
returns-in_err-second c x y z hx hy hz =
    refused c.from_residual-in_err-second.result _ (Refers (chosen x y z c.args.nums)) c.from_residual-in_err-second.ensures.1

pub same-nums : goal.same-nums
same-nums c = refl

pub returns : goal.returns
returns c x y z hx hy hz =
    c.choose.ensures x y z
    (subst (λ r. IfOk r (λ w. (ends_of w).part 0 ≡ x.part 0)) c.in_ok-condition.was (c.ground_worth.ensures x hx))
    (subst (λ r. IfOk r (Resolves y)) c.in_ok-first.was (c.settled.ensures y hy))
    (subst (λ r. IfOk r (Resolves z)) c.in_ok-second.was (c.settled-2.ensures z hz))
