use Rattle.bench_stands.proofs.Updates.{first_told}
use Rattle.bench_stands.proofs.laws.first_is_told.Goals as goal

pub returns : goal.returns
returns c = first_told c.the_root_state_stands.ensures c.the_root_state_names_no_child.ensures
