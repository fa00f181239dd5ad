use Rattle.tl_threads.proofs.Refines.{refines}
use Rattle.tl_threads.proofs.laws.code_does_the_next_move.Goals as goal

pub returns : goal.returns
returns c = refines
