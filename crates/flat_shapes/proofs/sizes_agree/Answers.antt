use Rattle.flat_shapes.proofs.Sizes.{sizes_agree}
use Rattle.flat_shapes.proofs.sizes_agree.Goals as goal

pub returns : goal.returns
returns c = sizes_agree
