use Rattle.bench_stands.proofs.Told.{count_told}
use Rattle.bench_stands.proofs.laws.count_is_told.Goals as goal

pub returns : goal.returns
returns c = count_told
