use Rattle.bench_model.specs.Small.{setting}
use Rattle.bench_model.proofs.Theorem.{real_conflicts}
use Rattle.bench_model.proofs.SmallLaws.{small_laws}
use Rattle.bench_model.proofs.laws.real_conflict.Goals as goal

pub returns : goal.returns
returns c = λ circuit l k h. real_conflicts (setting circuit l k) (small_laws circuit l k h)
