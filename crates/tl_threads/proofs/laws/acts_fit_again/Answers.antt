use Rattle.tl_threads.proofs.Keeping.{fits_behind}
use Rattle.tl_threads.proofs.laws.acts_fit_again.Goals as goal

pub returns : goal.returns
returns c = fits_behind
