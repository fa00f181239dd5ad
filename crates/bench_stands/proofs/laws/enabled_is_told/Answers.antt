use Rattle.bench_stands.proofs.Told.{enabled_told}
use Rattle.bench_stands.proofs.laws.enabled_is_told.Goals as goal

pub returns : goal.returns
returns c = enabled_told
