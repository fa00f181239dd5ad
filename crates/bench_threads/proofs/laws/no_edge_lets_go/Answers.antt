use Rattle.bench_threads.proofs.Ahead.{none_ahead}
use Rattle.bench_threads.proofs.laws.no_edge_lets_go.Goals as goal

pub returns : goal.returns
returns c = λ ts h e. none_ahead ts h e
