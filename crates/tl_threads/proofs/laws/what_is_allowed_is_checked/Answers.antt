use Rattle.tl_threads.proofs.Checking.{allowed_is_checked}
use Rattle.tl_threads.proofs.laws.what_is_allowed_is_checked.Goals as goal

pub returns : goal.returns
returns c = allowed_is_checked
