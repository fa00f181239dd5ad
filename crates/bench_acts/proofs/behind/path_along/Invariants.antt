use Rattle.std.proofs.Common.{◌≡◌, take}
use Rattle.bench_acts.proofs.behind.path_along.Given as goal

abbrev pub invariant-loop-number : goal.invariant-loop-number
invariant-loop-number l = l.path ≡ take l.number-index l.numbers
