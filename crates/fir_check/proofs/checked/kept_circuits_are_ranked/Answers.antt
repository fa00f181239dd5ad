use Rattle.fir_check.proofs.Ranks.{ranked}
use Rattle.fir_check.proofs.checked.kept_circuits_are_ranked.Goals as goal

pub returns : goal.returns
returns c = λ circuit kept. ranked circuit kept
