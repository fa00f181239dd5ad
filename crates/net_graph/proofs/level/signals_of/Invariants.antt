use Rattle.std.proofs.Common.{◌≡◌, take}
use Rattle.net_graph.specs.NetGraphs.{numbers}
use Rattle.net_graph.proofs.level.signals_of.Given as goal

abbrev pub invariant-loop-x : goal.invariant-loop-x
invariant-loop-x l = numbers l.signals.items ≡ take l.x-index l.order
