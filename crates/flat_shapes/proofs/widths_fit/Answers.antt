use Rattle.flat_shapes.proofs.Leaves.{widths_fit}
use Rattle.flat_shapes.proofs.widths_fit.Goals as goal

pub returns : goal.returns
returns c = widths_fit
