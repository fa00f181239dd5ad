use Rattle.net_graph.specs.Graphs.{reads_in}
use Rattle.net_graph.specs.NetGraphs.{ReadsOver}
use Rattle.net_graph.specs.Distances.{distance_of}
use Rattle.net_graph.specs.Falling.{AllBehind}
use Rattle.net_graph.proofs.SearchFacts.{Descends}
use Rattle.net_graph.proofs.search.descend.Given as goal

abbrev pub invariant-loop-x : goal.invariant-loop-x
invariant-loop-x l = record {
  walk : Descends (ReadsOver (reads_in l.lists) l.own) (distance_of l.distances l.own) l.target l.own l.from l.x l.fn.path.items l.path.items;
  passed : AllBehind l.lists l.passed (distance_of l.distances l.own) l.x;
}

abbrev pub decreases-loop-x : goal.decreases-loop-x
decreases-loop-x l = distance_of l.distances l.own l.x
