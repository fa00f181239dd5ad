use Rattle.fir_print_laws.proofs.LinePhrases.{printable_cut}
use Rattle.fir_print_laws.proofs.printed_circuits_are_cut.Goals as goal

pub returns : goal.returns
returns c = printable_cut
