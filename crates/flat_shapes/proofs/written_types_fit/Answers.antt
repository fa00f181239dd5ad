use Rattle.flat_shapes.proofs.Written.{written_types_fit}
use Rattle.flat_shapes.proofs.written_types_fit.Goals as goal

pub returns : goal.returns
returns c = written_types_fit
