use Rattle.fir_round.proofs.Again.{read_again}
use Rattle.fir_round.proofs.what_is_printed_is_read_again.Goals as goal

pub returns : goal.returns
returns c = read_again
