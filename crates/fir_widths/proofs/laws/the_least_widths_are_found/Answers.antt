use Rattle.fir_widths.proofs.Found.{least_found}
use Rattle.fir_widths.proofs.laws.the_least_widths_are_found.Goals as goal

pub returns : goal.returns
returns c = least_found
