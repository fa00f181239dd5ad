use Rattle.flat_places.proofs.Whole.{inputs_have_widths}
use Rattle.flat_places.proofs.inputs_have_widths.Goals as goal

pub returns : goal.returns
returns c = inputs_have_widths
