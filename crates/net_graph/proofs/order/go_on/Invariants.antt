use Rattle.std.proofs.Common.{◌≡◌, ◌≤◌, ◌-◌, length}
use Rattle.net_graph.specs.Taking.{Taken, left}
use Rattle.net_graph.proofs.order.go_on.Given as goal

abbrev pub invariant-loop-x : goal.invariant-loop-x
invariant-loop-x l = record {
  unread : length l.unread ≡ length l.lists;
  taken : Taken l.lists l.order.items l.taken;
  fewer : left l.taken ≤ left l.fn.taken;
}

abbrev pub invariant-loop-next : goal.invariant-loop-next
invariant-loop-next l = record {
  unread : length l.unread ≡ length l.lists;
  taken : Taken l.lists l.order.items l.taken;
  fewer : left l.taken ≤ left l.fn.taken;
}

abbrev pub decreases-loop-next : goal.decreases-loop-next
decreases-loop-next l = length l.lists - l.next
