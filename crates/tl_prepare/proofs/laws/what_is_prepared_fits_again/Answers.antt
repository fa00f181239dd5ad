use Rattle.tl_prepare.proofs.Again.{prepared_fits}
use Rattle.tl_prepare.proofs.laws.what_is_prepared_fits_again.Goals as goal

pub returns : goal.returns
returns c = prepared_fits c.acts_fit_again.ensures c.the_places_stand.ensures
