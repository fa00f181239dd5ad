use Rattle.bench_threads.proofs.Ahead.{counts_down}
use Rattle.bench_threads.proofs.laws.edges_count_down.Goals as goal

pub returns : goal.returns
returns c = λ ts n h e. counts_down ts n h e
