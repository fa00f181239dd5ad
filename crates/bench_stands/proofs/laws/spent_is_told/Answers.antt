use Rattle.bench_stands.proofs.Told.{spent_told}
use Rattle.bench_stands.proofs.laws.spent_is_told.Goals as goal

pub returns : goal.returns
returns c = spent_told
