use Rattle.bench_threads.proofs.Ahead.{ends}
use Rattle.bench_threads.proofs.laws.ends_bring_edges_nearer.Goals as goal

pub returns : goal.returns
returns c = λ ts p e there runs. ends ts p e there runs
