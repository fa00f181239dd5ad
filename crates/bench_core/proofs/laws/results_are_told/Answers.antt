use Rattle.bench_core.proofs.Given.{results_are_told}
use Rattle.bench_core.proofs.laws.results_are_told.Goals as goal

pub returns : goal.returns
returns c = results_are_told
