use Rattle.tl_round.proofs.Whole.{read_again}
use Rattle.tl_round.proofs.printed_tests_read_back.Goals as goal

pub returns : goal.returns
returns c = read_again
