use Rattle.tl_code.proofs.Standing.{fitting_stands}
use Rattle.tl_code.proofs.laws.a_fitting_state_stands.Goals as goal

pub returns : goal.returns
returns c = fitting_stands c.the_places_stand.ensures c.what_fits_stands.ensures
