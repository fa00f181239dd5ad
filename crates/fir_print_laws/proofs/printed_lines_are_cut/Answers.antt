use Rattle.fir_print_laws.proofs.TextItems.{circuit_cut}
use Rattle.fir_print_laws.proofs.printed_lines_are_cut.Goals as goal

pub returns : goal.returns
returns c = circuit_cut
