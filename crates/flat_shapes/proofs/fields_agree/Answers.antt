use Rattle.flat_shapes.proofs.Parts.{fields_agree}
use Rattle.flat_shapes.proofs.fields_agree.Goals as goal

pub returns : goal.returns
returns c = fields_agree
