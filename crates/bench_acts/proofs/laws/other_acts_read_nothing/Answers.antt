use Rattle.bench_acts.proofs.Advancing.{others_read_nothing}
use Rattle.bench_acts.proofs.laws.other_acts_read_nothing.Goals as goal

pub returns : goal.returns
returns c = others_read_nothing
