use Rattle.order_rel.specs.Logs.{log_of}
use Rattle.conflict_core.specs.Conflicts.{cone_of}
use Rattle.conflict_core.proofs.FirstFacts.{FreeBelow}
use Rattle.conflict_core.proofs.conflict.first_conflict.Given as goal

abbrev pub invariant-loop-last : goal.invariant-loop-last
invariant-loop-last l = FreeBelow (cone_of l.cones) (log_of l.log) l.last
