use Rattle.conflict_core.specs.Conflicts.{cone_of}
use Rattle.conflict_core.proofs.CodeFacts.{newest_of}
use Rattle.conflict_core.proofs.conflict.conflict_with_last.Goals as goal

pub returns-clause-value : goal.returns-clause-value
returns-clause-value c = newest_of (cone_of c.args.cones.now) c.args.log.now c.earliest.result c.earliest.ensures
