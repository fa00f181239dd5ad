use Rattle.tl_threads.proofs.Regions.{moves_fit}
use Rattle.tl_threads.proofs.laws.moves_respect_regions.Goals as goal

pub returns : goal.returns
returns c = moves_fit
