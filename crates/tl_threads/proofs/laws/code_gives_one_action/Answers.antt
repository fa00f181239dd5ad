use Rattle.tl_threads.proofs.Runs.{one_action}
use Rattle.tl_threads.proofs.laws.code_gives_one_action.Goals as goal

pub returns : goal.returns
returns c = one_action
