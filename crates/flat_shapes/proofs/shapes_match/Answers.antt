use Rattle.flat_shapes.proofs.Matching.{shapes_match}
use Rattle.flat_shapes.proofs.shapes_match.Goals as goal

pub returns : goal.returns
returns c = shapes_match
