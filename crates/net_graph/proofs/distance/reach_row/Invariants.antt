use Rattle.std.proofs.Common.{◌≡◌, take, length}
use Rattle.net_graph.specs.Distances.{Spread, AllEntered}
use Rattle.net_graph.proofs.DistanceFacts.{RowReaches}
use Rattle.net_graph.proofs.distance.reach_row.Given as goal

abbrev pub invariant-loop-x : goal.invariant-loop-x
invariant-loop-x l = record {
  places : length l.distances ≡ l.own;
  spread : Spread (RowReaches l.readers l.own (take l.x-index l.row)) l.own l.level l.fn.distances l.fn.next.items l.distances l.next.items;
  entered : AllEntered l.readers l.own l.entered l.distances;
}
