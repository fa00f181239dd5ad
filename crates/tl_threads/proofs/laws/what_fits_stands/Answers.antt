use Rattle.tl_threads.proofs.Fitting.{fits_stands}
use Rattle.tl_threads.proofs.laws.what_fits_stands.Goals as goal

pub returns : goal.returns
returns c = fits_stands
