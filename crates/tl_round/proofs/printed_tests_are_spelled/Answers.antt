use Rattle.tl_round.proofs.Whole.{spelled_again}
use Rattle.tl_round.proofs.Unlined.{only_lines}
use Rattle.tl_round.proofs.printed_tests_are_spelled.Goals as goal

pub returns : goal.returns
returns c = λ text t sp. (spelled_again text t sp, only_lines t)
