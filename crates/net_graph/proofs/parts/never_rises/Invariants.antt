use Rattle.net_graph.proofs.PartFacts.{FallsBelow}
use Rattle.net_graph.proofs.parts.never_rises.Given as goal

abbrev pub invariant-loop-x : goal.invariant-loop-x
invariant-loop-x l = FallsBelow l.lists l.parts l.x
