use Rattle.tl_threads.proofs.Regions.{root_fits}
use Rattle.tl_threads.proofs.laws.the_root_respects_regions.Goals as goal

pub returns : goal.returns
returns c = root_fits
