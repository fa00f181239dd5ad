use Rattle.flat_places.proofs.Placed.{instances_have_rows}
use Rattle.flat_places.proofs.instances_have_rows.Goals as goal

pub returns : goal.returns
returns c = instances_have_rows
