use Rattle.bench_model.specs.Small.{setting}
use Rattle.bench_model.proofs.Theorem.{any_clean_order}
use Rattle.bench_model.proofs.SmallLaws.{small_laws}
use Rattle.bench_model.proofs.laws.any_clean_order.Goals as goal

pub returns : goal.returns
returns c = λ circuit l k h. any_clean_order (setting circuit l k) (small_laws circuit l k h)
