use Rattle.tl_code.proofs.Standing.{places_stand}
use Rattle.tl_code.proofs.laws.the_places_stand.Goals as goal

pub returns : goal.returns
returns c = places_stand c.rules_make_the_code_stand.ensures
