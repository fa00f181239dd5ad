use Rattle.bench_reach.proofs.Standing.{worlds_possible}
use Rattle.bench_reach.proofs.laws.worlds_are_possible.Goals as goal

pub returns : goal.returns
returns c = worlds_possible
