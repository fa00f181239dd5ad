use Rattle.bench_settle.proofs.Told.{settling_told}
use Rattle.bench_settle.proofs.laws.settling_is_told.Goals as goal

pub returns : goal.returns
returns c = settling_told c.ending_is_the_verdict.ensures c.quiet_is_told.ensures
