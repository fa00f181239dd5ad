use Rattle.bench_model.specs.Small.{setting}
use Rattle.bench_model.proofs.TwoMoves.{was_enabled}
use Rattle.bench_model.proofs.SmallLaws.{small_laws}
use Rattle.bench_model.proofs.laws.enabled_before.Goals as goal

pub returns : goal.returns
returns c = λ circuit l k h. was_enabled (setting circuit l k) (small_laws circuit l k h)
