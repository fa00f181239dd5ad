use Rattle.std.proofs.Common.{◌-◌}
use Rattle.net_graph.specs.Distances.{Level, RowReads, AllEntered}
use Rattle.net_graph.proofs.distance.distances.Given as goal

abbrev pub invariant-loop-alloc : goal.invariant-loop-alloc
invariant-loop-alloc l = record {
  level : Level (RowReads l.readers l.own) l.target l.own l.level l.distances.items l.front.items;
  entered : AllEntered l.readers l.own l.entered.items l.distances.items;
}

abbrev pub decreases-loop-alloc : goal.decreases-loop-alloc
decreases-loop-alloc l = l.own - l.level
