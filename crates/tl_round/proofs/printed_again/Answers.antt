use Rattle.tl_round.proofs.Unlined.{relined_printed}
use Rattle.tl_round.proofs.printed_again.Goals as goal

pub returns : goal.returns
returns c = relined_printed
