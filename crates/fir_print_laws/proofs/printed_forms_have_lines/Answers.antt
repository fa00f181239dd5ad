use Rattle.fir_print_laws.proofs.LineTexts.{circuit_is}
use Rattle.fir_print_laws.proofs.printed_forms_have_lines.Goals as goal

pub returns : goal.returns
returns c = circuit_is
