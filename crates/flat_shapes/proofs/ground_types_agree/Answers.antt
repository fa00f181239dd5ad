use Rattle.flat_shapes.proofs.Grounds.{grounds_agree}
use Rattle.flat_shapes.proofs.ground_types_agree.Goals as goal

pub returns : goal.returns
returns c = grounds_agree
