use Rattle.tl_round.proofs.Unlined.{only_lines}
use Rattle.tl_round.proofs.only_lines_change.Goals as goal

pub returns : goal.returns
returns c = only_lines
