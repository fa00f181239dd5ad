use Rattle.std.proofs.Common.{◌≡◌, ◌<◌, ℕ, true}
use Rattle.fir_check.specs.Instances.{rises_nowhere, kids_at, kids_seen}
use Rattle.fir_check.proofs.heights.never_rises.Given as goal

abbrev pub invariant-loop-home : goal.invariant-loop-home
invariant-loop-home l = (a : ℕ) → a < l.home → rises_nowhere l.heights a (kids_at (kids_seen l.kids) a) ≡ true
