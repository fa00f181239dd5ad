use Rattle.std.proofs.Common.{◌≡◌, length}
use Rattle.net_graph.specs.Taking.{Taken, left}
use Rattle.net_graph.proofs.order.furthest_order.Given as goal

abbrev pub invariant-loop-order : goal.invariant-loop-order
invariant-loop-order l = record {
  unread : length l.unread.items ≡ length l.lists;
  taken : Taken l.lists l.order.items l.taken.items;
}

abbrev pub decreases-loop-order : goal.decreases-loop-order
decreases-loop-order l = left l.taken.items
