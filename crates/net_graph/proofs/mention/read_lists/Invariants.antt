use Rattle.std.proofs.Common.{◌≡◌, ℕ, ◌<◌, length, get_or}
use Rattle.net_core.specs.Nets.{equation_reads, no_equation}
use Rattle.net_graph.specs.Graphs.{reads_in}
use Rattle.net_graph.proofs.mention.read_lists.Given as goal

abbrev pub invariant-loop-equation : goal.invariant-loop-equation
invariant-loop-equation l = record {
  places : length l.lists.items ≡ l.equation-index;
  reads : (x y : ℕ) → x < l.equation-index → reads_in l.lists.items x y ≡ equation_reads (get_or l.net.equations x no_equation) y;
}
