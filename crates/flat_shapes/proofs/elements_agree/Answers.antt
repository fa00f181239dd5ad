use Rattle.flat_shapes.proofs.Parts.{elements_agree}
use Rattle.flat_shapes.proofs.elements_agree.Goals as goal

pub returns : goal.returns
returns c = elements_agree
