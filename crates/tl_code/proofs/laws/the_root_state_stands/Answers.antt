use Rattle.tl_code.proofs.Standing.{root_stands}
use Rattle.tl_code.proofs.laws.the_root_state_stands.Goals as goal

pub returns : goal.returns
returns c = root_stands c.the_places_stand.ensures c.the_beginning_stands_for_the_root.ensures
