use Rattle.bench_model.specs.Small.{setting}
use Rattle.bench_model.proofs.TwoMoves.{stays}
use Rattle.bench_model.proofs.SmallLaws.{small_laws}
use Rattle.bench_model.proofs.laws.stays_enabled.Goals as goal

pub returns : goal.returns
returns c = λ circuit l k h. stays (setting circuit l k) (small_laws circuit l k h)
