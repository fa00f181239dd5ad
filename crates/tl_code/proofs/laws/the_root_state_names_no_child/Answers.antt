use Rattle.tl_code.proofs.Standing.{root_owns_children}
use Rattle.tl_code.proofs.laws.the_root_state_names_no_child.Goals as goal

pub returns : goal.returns
returns c = root_owns_children
