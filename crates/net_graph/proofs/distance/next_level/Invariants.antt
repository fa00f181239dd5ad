use Rattle.std.proofs.Common.{◌≡◌, take, length}
use Rattle.net_graph.specs.Distances.{Spread, AllEntered, ReadsFront, RowReads}
use Rattle.net_graph.proofs.distance.next_level.Given as goal

abbrev pub invariant-loop-z : goal.invariant-loop-z
invariant-loop-z l = record {
  places : length l.distances ≡ l.own;
  spread : Spread (ReadsFront (RowReads l.readers l.own) (take l.z-index l.front)) l.own l.level l.fn.distances l.fn.next.items l.distances l.next.items;
  entered : AllEntered l.readers l.own l.entered l.distances;
}
