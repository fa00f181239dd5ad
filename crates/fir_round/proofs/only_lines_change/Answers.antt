use Rattle.fir_round.proofs.Unlined.{only_lines}
use Rattle.fir_round.proofs.only_lines_change.Goals as goal

pub returns : goal.returns
returns c = only_lines
