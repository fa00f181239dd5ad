use Rattle.bench_stands.proofs.Updates.{entries_fit}
use Rattle.bench_stands.proofs.laws.standing_fits.Goals as goal

pub returns : goal.returns
returns c = entries_fit c.a_standing_state_fits.ensures
