use Rattle.tl_prepare.proofs.Owning.{children_own}
use Rattle.tl_prepare.proofs.laws.children_stay_own.Goals as goal

pub returns : goal.returns
returns c = children_own
