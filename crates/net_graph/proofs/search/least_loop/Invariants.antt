use Rattle.std.proofs.Common.{ℕ, List, ◌<◌}
use Rattle.net_graph.specs.Graphs.{reads_in}
use Rattle.net_graph.specs.Loops.{IsLoopFrom}
use Rattle.net_graph.specs.NetGraphs.{ReadsOver}
use Rattle.net_graph.proofs.search.least_loop.Given as goal

abbrev pub invariant-loop-x : goal.invariant-loop-x
invariant-loop-x l = (y : ℕ) (other : List ℕ) → IsLoopFrom (ReadsOver (reads_in l.lists) l.own) y other → y < l.x → ⊥
