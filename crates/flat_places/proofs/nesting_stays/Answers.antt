use Rattle.flat_places.proofs.Whole.{nesting_stays}
use Rattle.flat_places.proofs.nesting_stays.Goals as goal

pub returns : goal.returns
returns c = nesting_stays
