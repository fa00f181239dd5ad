use Rattle.std.proofs.Common.{◌≡◌, ◌<◌, ◌≤◌, true, false}
use Rattle.net_graph.specs.Taking.{Taken, StuckBelow, left}
use Rattle.net_graph.proofs.order.sweep.Given as goal

abbrev pub invariant-loop-x : goal.invariant-loop-x
invariant-loop-x l = record {
  taken : Taken l.lists l.order.items l.taken;
  fewer : left l.taken ≤ left l.initial.taken;
  took : l.took ≡ true → left l.taken < left l.initial.taken;
  stuck : l.took ≡ false → StuckBelow l.lists l.taken l.x;
}
