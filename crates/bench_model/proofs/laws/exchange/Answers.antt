use Rattle.bench_model.specs.Small.{setting}
use Rattle.bench_model.proofs.TwoMoves.{exchanges}
use Rattle.bench_model.proofs.SmallLaws.{small_laws}
use Rattle.bench_model.proofs.laws.exchange.Goals as goal

pub returns : goal.returns
returns c = λ circuit l k h. exchanges (setting circuit l k) (small_laws circuit l k h)
