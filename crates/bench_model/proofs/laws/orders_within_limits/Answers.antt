use Rattle.bench_model.specs.Small.{setting}
use Rattle.bench_model.proofs.FirstOrder.{orders_within}
use Rattle.bench_model.proofs.SmallLaws.{small_laws}
use Rattle.bench_model.proofs.laws.orders_within_limits.Goals as goal

pub returns : goal.returns
returns c = λ circuit l k h. orders_within (setting circuit l k) (small_laws circuit l k h)
