use Rattle.tl_threads.proofs.Regions.{threads_meet_laws}
use Rattle.tl_threads.proofs.laws.threads_meet_the_laws_of_orders.Goals as goal

pub returns : goal.returns
returns c = threads_meet_laws
