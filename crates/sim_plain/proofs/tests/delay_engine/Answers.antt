use Rattle.std.proofs.Common.{subst, sym, ◌∷◌, []}
use Rattle.sim_plain.specs.Ready.{Fits, InOrder}
use Rattle.sim_plain.proofs.Delay.{delay_fits, delay_order}
use Rattle.sim_plain.proofs.tests.delay_engine.Goals as goal

pub over-requires-clause-fits : goal.over-requires-clause-fits
over-requires-clause-fits c = subst (λ n. Fits n) (sym c.in_ok-net.ensures) delay_fits

pub over-requires-clause-order : goal.over-requires-clause-order
over-requires-clause-order c = subst (λ n. InOrder n (0 ∷ 2 ∷ 1 ∷ [])) (sym c.in_ok-net.ensures) delay_order
