use Rattle.tb_base.proofs.PathOrderLemmas.{prefix_less, number_less}
use Rattle.tb_base.proofs.path.paths_are_ordered.Goals as goal

pub returns : goal.returns
returns c = record { prefix = prefix_less; number = number_less }
