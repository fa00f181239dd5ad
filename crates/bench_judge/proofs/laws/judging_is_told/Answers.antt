use Rattle.bench_judge.proofs.Told.{judging_told}
use Rattle.bench_judge.proofs.laws.judging_is_told.Goals as goal

pub returns : goal.returns
returns c = judging_told c.taking_is_the_act.ensures c.settling_is_told.ensures c.quiet_is_told.ensures
