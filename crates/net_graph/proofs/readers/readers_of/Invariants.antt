use Rattle.net_graph.specs.Readers.{TurnedBelow}
use Rattle.net_graph.proofs.readers.readers_of.Given as goal

abbrev pub invariant-loop-x : goal.invariant-loop-x
invariant-loop-x l = TurnedBelow l.lists l.readers.items l.x
