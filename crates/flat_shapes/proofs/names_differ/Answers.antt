use Rattle.flat_shapes.proofs.Names.{names_differ}
use Rattle.flat_shapes.proofs.names_differ.Goals as goal

pub returns : goal.returns
returns c = names_differ
