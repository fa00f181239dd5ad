use Rattle.bench_reach.proofs.Standing.{next_children_new}
use Rattle.bench_reach.proofs.laws.next_children_are_new.Goals as goal

pub returns : goal.returns
returns c = next_children_new
