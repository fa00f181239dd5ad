use Rattle.std.proofs.Common.{ℕ, ◌≡◌, ◌≤◌, ◌<◌, true, false, length, get_or}
use Rattle.fir_flat.specs.Homes.{Lower, room, next_at}
use Rattle.fir_flat.proofs.homes.sweep.Given as goal

abbrev pub invariant-loop-number : goal.invariant-loop-number
invariant-loop-number l = record {
  within : l.number ≤ length l.homes;
  lower : Lower l.homes l.counts;
  rose : l.rose ≡ true → room l.counts < room l.initial.counts;
  fell : room l.counts ≤ room l.initial.counts;
  met : l.rose ≡ false → (k : ℕ) → l.number ≤ k → k < length l.homes → next_at l.homes l.counts k ≤ get_or l.counts k 0;
}

abbrev pub decreases-loop-number : goal.decreases-loop-number
decreases-loop-number l = l.number
