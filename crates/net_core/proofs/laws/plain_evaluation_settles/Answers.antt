use Rattle.net_core.proofs.SettledFacts.{settles}
use Rattle.net_core.proofs.laws.plain_evaluation_settles.Goals as goal

pub returns : goal.returns
returns c = settles
