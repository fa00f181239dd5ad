use Rattle.bench_threads.proofs.Running.{spent_is_named}
use Rattle.bench_threads.proofs.laws.spent_is_named.Goals as goal

pub returns : goal.returns
returns c = spent_is_named
