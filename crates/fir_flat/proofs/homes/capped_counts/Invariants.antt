use Rattle.std.proofs.Common.{◌≡◌, length, vec_len}
use Rattle.fir_flat.specs.Homes.{Lower, room}
use Rattle.fir_flat.proofs.homes.capped_counts.Given as goal

abbrev pub invariant-loop-counts : goal.invariant-loop-counts
invariant-loop-counts l = record { long : vec_len l.counts ≡ length l.homes; lower : Lower l.homes l.counts.items }

abbrev pub decreases-loop-counts : goal.decreases-loop-counts
decreases-loop-counts l = room l.counts.items
