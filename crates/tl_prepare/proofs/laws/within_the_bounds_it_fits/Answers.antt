use Rattle.tl_prepare.proofs.Again.{within_bounds}
use Rattle.tl_prepare.proofs.laws.within_the_bounds_it_fits.Goals as goal

pub returns : goal.returns
returns c = within_bounds
