use Rattle.bench_threads.proofs.Ahead.{wakes}
use Rattle.bench_threads.proofs.laws.wakes_bring_no_edge.Goals as goal

pub returns : goal.returns
returns c = λ ts p d. wakes ts p d
