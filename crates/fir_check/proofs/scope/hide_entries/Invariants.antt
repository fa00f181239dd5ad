use Rattle.std.proofs.Common.{◌≡◌, ◌≤◌, length, min}
use Rattle.fir_check.specs.KnownSeen.{closed_past}
use Rattle.fir_check.proofs.scope.hide_entries.Given as goal

abbrev pub invariant-loop-k : goal.invariant-loop-k
invariant-loop-k l = record {
  hidden : l.names.entries ≡ closed_past l.k l.initial.names.entries;
  floor : min l.from (length l.initial.names.entries) ≤ l.k;
}

abbrev pub decreases-loop-k : goal.decreases-loop-k
decreases-loop-k l = l.k
