use Rattle.fir_widths.proofs.Found.{least_one}
use Rattle.fir_widths.proofs.laws.least_widths_are_one.Goals as goal

pub returns : goal.returns
returns c = least_one
