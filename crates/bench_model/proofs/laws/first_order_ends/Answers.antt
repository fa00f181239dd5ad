use Rattle.bench_model.specs.Small.{setting}
use Rattle.bench_model.proofs.Theorem.{first_order_ends}
use Rattle.bench_model.proofs.SmallLaws.{small_laws}
use Rattle.bench_model.proofs.laws.first_order_ends.Goals as goal

pub returns : goal.returns
returns c = λ circuit l k h. first_order_ends (setting circuit l k) (small_laws circuit l k h)
