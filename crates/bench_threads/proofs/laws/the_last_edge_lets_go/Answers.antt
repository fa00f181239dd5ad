use Rattle.bench_threads.proofs.Ahead.{lets_go}
use Rattle.bench_threads.proofs.laws.the_last_edge_lets_go.Goals as goal

pub returns : goal.returns
returns c = λ ts h e. lets_go ts e
