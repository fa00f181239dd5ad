use Rattle.bench_stands.proofs.Edges.{edge_told}
use Rattle.bench_stands.proofs.laws.edge_is_told.Goals as goal

pub returns : goal.returns
returns c = edge_told
