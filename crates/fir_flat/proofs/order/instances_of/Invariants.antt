use Rattle.std.proofs.Common.{◌≡◌, vec_len}
use Rattle.fir_flat.proofs.order.instances_of.Given as goal

abbrev pub invariant-loop-home : goal.invariant-loop-home
invariant-loop-home l = vec_len l.numbers ≡ l.home-index
