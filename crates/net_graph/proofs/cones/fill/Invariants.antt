use Rattle.std.proofs.Common.{◌≡◌, ℕ, true, take, length}
use Rattle.net_core.specs.Rules.{has}
use Rattle.net_core.specs.Signals.{info, is_input}
use Rattle.net_graph.specs.Graphs.{reads_in}
use Rattle.net_graph.specs.NetGraphs.{numbers}
use Rattle.net_graph.specs.Reaching.{RightAt}
use Rattle.net_graph.proofs.cones.fill.Given as goal

abbrev pub invariant-loop-signal : goal.invariant-loop-signal
invariant-loop-signal l = record {
  places : length l.sets ≡ length l.lists;
  done : (x : ℕ) → has (take l.signal-index (numbers l.order)) x ≡ true → RightAt (reads_in l.lists) (λ p. is_input (info l.signals p).role) l.sets x;
}
