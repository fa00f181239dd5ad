use Rattle.bench_core.proofs.Handing.{picks_are_right}
use Rattle.bench_core.proofs.laws.picks_are_right.Goals as goal

pub returns : goal.returns
returns c = picks_are_right c.real_conflict.ensures c.least_is_told.ensures c.standing_fits.ensures c.worlds_are_bounded.ensures
