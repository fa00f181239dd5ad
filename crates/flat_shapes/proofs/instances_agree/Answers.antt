use Rattle.flat_shapes.proofs.Grounds.{instances_agree}
use Rattle.flat_shapes.proofs.instances_agree.Goals as goal

pub returns : goal.returns
returns c = instances_agree
