use Rattle.std.proofs.Common.{take}
use Rattle.net_graph.proofs.PartFacts.{AtMost}
use Rattle.net_graph.proofs.parts.highest_part.Given as goal

abbrev pub invariant-loop-y : goal.invariant-loop-y
invariant-loop-y l = AtMost l.parts (take l.y-index l.list) l.highest
