use Rattle.std.proofs.Common.{◌≡◌, take, length}
use Rattle.net_graph.specs.Distances.{Spread}
use Rattle.net_graph.proofs.DistanceFacts.{OwnIn}
use Rattle.net_graph.proofs.distance.reach_list.Given as goal

abbrev pub invariant-loop-x : goal.invariant-loop-x
invariant-loop-x l = record {
  places : length l.distances ≡ l.own;
  spread : Spread (OwnIn l.own (take l.x-index l.list)) l.own l.level l.fn.distances l.fn.next.items l.distances l.next.items;
}
