use Rattle.tl_threads.proofs.Fitting.{stands_fits}
use Rattle.tl_threads.proofs.laws.what_stands_fits.Goals as goal

pub returns : goal.returns
returns c = stands_fits
