use Rattle.fir_round.proofs.Unlined.{relined_printed}
use Rattle.fir_round.proofs.printing_again_changes_nothing.Goals as goal

pub returns : goal.returns
returns c = relined_printed
