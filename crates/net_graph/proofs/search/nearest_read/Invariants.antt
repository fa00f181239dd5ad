use Rattle.std.proofs.Common.{◌≡◌, ◌⊎◌, take, get_or, []}
use Rattle.net_graph.specs.Distances.{distance_of}
use Rattle.net_graph.specs.Falling.{NearestAmong, ListReads}
use Rattle.net_graph.proofs.SearchFacts.{TakenReads, MarksOf}
use Rattle.net_graph.proofs.search.nearest_read.Given as goal

abbrev pub invariant-loop-y : goal.invariant-loop-y
invariant-loop-y l = record {
  one : (l.nearest ≡ l.own) ⊎ ListReads l.lists l.own l.x l.nearest;
  nearest : NearestAmong (TakenReads l.lists l.own l.fn.passed (take l.y-index (get_or l.lists l.x []))) (distance_of l.distances l.own) l.own l.nearest;
  marks : MarksOf l.own l.fn.passed l.passed (take l.y-index (get_or l.lists l.x []));
}
