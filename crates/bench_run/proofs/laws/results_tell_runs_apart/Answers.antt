use Rattle.bench_run.proofs.Back.{tells_apart}
use Rattle.bench_run.proofs.laws.results_tell_runs_apart.Goals as goal

pub returns : goal.returns
returns c = tells_apart
