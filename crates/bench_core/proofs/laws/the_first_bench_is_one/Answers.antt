use Rattle.bench_core.proofs.Given.{first_is_bench}
use Rattle.bench_core.proofs.laws.the_first_bench_is_one.Goals as goal

pub returns : goal.returns
returns c = first_is_bench c.first_stands.ensures c.marks_and_room_are_unseen.ensures
