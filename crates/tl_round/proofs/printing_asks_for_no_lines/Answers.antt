use Rattle.tl_round.proofs.Unlined.{same_printed}
use Rattle.tl_round.proofs.printing_asks_for_no_lines.Goals as goal

pub returns : goal.returns
returns c = same_printed
