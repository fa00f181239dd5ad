use Rattle.bench_stands.proofs.Told.{quiet_told}
use Rattle.bench_stands.proofs.laws.quiet_is_told.Goals as goal

pub returns : goal.returns
returns c = quiet_told
