use Rattle.std.proofs.Common.{ℕ, ◌<◌, ◌-◌, length, slice_index}
use Rattle.fir_flat.proofs.resolve.check_places.Given as goal

abbrev pub invariant-loop-k : goal.invariant-loop-k
invariant-loop-k l = (j : ℕ) → j < l.k → slice_index l.places j < l.size

abbrev pub decreases-loop-k : goal.decreases-loop-k
decreases-loop-k l = length l.places - l.k
