use Rattle.bench_stands.proofs.Updates.{marks_unseen}
use Rattle.bench_stands.proofs.laws.marks_are_unseen.Goals as goal

pub returns : goal.returns
returns c = marks_unseen
