use Rattle.tl_code.proofs.Standing.{standing_fits}
use Rattle.tl_code.proofs.laws.a_standing_state_fits.Goals as goal

pub returns : goal.returns
returns c = standing_fits c.what_stands_fits.ensures
