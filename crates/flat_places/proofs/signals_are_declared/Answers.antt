use Rattle.flat_places.proofs.Whole.{signals_are_declared}
use Rattle.flat_places.proofs.signals_are_declared.Goals as goal

pub returns : goal.returns
returns c = signals_are_declared
