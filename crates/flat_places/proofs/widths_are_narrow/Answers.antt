use Rattle.flat_places.proofs.Whole.{widths_are_narrow}
use Rattle.flat_places.proofs.widths_are_narrow.Goals as goal

pub returns : goal.returns
returns c = widths_are_narrow
