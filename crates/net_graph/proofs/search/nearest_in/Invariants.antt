use Rattle.std.proofs.Common.{◌≡◌, ◌⊎◌, true, take}
use Rattle.net_core.specs.Rules.{has}
use Rattle.net_graph.specs.Distances.{distance_of}
use Rattle.net_graph.specs.Falling.{NearestAmong}
use Rattle.net_graph.proofs.search.nearest_in.Given as goal

abbrev pub invariant-loop-w : goal.invariant-loop-w
invariant-loop-w l = record {
  one : (l.nearest ≡ l.first) ⊎ (has l.list l.nearest ≡ true);
  nearest : NearestAmong (λ w. has (take l.w-index l.list) w ≡ true) (distance_of l.distances l.own) l.first l.nearest;
}
