use Rattle.flat_shapes.proofs.Leaves.{leaves_agree}
use Rattle.flat_shapes.proofs.leaves_agree.Goals as goal

pub returns : goal.returns
returns c = leaves_agree
