use Rattle.bench_model.specs.Small.{setting}
use Rattle.bench_model.proofs.FormedRuns.{logs_formed}
use Rattle.bench_model.proofs.SmallLaws.{small_laws}
use Rattle.bench_model.proofs.laws.log_is_formed.Goals as goal

pub returns : goal.returns
returns c = λ circuit l k h. logs_formed (setting circuit l k) (small_laws circuit l k h)
