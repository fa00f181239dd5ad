use Rattle.fir_flat.specs.Homes.{Lower}
use Rattle.fir_flat.proofs.homes.recount_each.Given as goal

abbrev pub invariant-loop-place : goal.invariant-loop-place
invariant-loop-place l = Lower l.homes l.counts
