use Rattle.tl_threads.proofs.Fitting.{root_stands}
use Rattle.tl_threads.proofs.laws.the_beginning_stands_for_the_root.Goals as goal

pub returns : goal.returns
returns c = root_stands
