use Rattle.bench_model.specs.Small.{setting}
use Rattle.bench_model.proofs.Theorem.{every_order}
use Rattle.bench_model.proofs.SmallLaws.{small_laws}
use Rattle.bench_model.proofs.laws.every_order.Goals as goal

pub returns : goal.returns
returns c = λ circuit l k h. every_order (setting circuit l k) (small_laws circuit l k h)
