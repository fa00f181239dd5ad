use Rattle.tl_threads.proofs.Bounding.{rules_bound}
use Rattle.tl_threads.proofs.laws.rules_bound_the_slots.Goals as goal

pub returns : goal.returns
returns c = rules_bound
