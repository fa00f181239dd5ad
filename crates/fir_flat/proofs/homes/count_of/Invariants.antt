use Rattle.std.proofs.Common.{◌≡◌, ◌+◌, sum, take, get_or, map}
use Rattle.fir_flat.specs.Counts.{cut}
use Rattle.fir_flat.proofs.homes.count_of.Given as goal

abbrev pub invariant-loop-instance : goal.invariant-loop-instance
invariant-loop-instance l = l.total ≡ cut (l.home.own + sum (map (λ c. get_or l.counts c 0) (take l.instance-index l.instance-items)))
