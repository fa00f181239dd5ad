use Rattle.bench_stands.proofs.Least.{least_told}
use Rattle.bench_stands.proofs.laws.least_is_told.Goals as goal

pub returns : goal.returns
returns c = least_told
