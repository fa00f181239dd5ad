use Rattle.tl_drivers.proofs.Spelled.{spelled_leaves}
use Rattle.tl_drivers.proofs.texts_leave_the_drivers_handle.Goals as goal

pub returns : goal.returns
returns c = spelled_leaves
