use Rattle.fir_round.proofs.Again.{spelled_again}
use Rattle.fir_round.proofs.what_is_printed_is_spelled.Goals as goal

pub returns : goal.returns
returns c = spelled_again
