use Rattle.bench_threads.proofs.Ahead.{goes_on}
use Rattle.bench_threads.proofs.laws.acts_bring_edges_nearer.Goals as goal

pub returns : goal.returns
returns c = λ ts p e s there runs. goes_on ts p e there runs s
