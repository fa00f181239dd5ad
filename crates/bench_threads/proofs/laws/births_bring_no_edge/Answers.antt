use Rattle.bench_threads.proofs.Ahead.{born}
use Rattle.bench_threads.proofs.laws.births_bring_no_edge.Goals as goal

pub returns : goal.returns
returns c = λ ts d s absent alone. born ts d s absent alone
