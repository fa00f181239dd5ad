use Rattle.bench_threads.proofs.Running.{quiet_is_nobody}
use Rattle.bench_threads.proofs.laws.quiet_is_nobody.Goals as goal

pub returns : goal.returns
returns c = quiet_is_nobody
