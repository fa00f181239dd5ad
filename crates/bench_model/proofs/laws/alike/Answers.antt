use Rattle.bench_model.specs.Small.{setting}
use Rattle.bench_model.proofs.TwoMoves.{alike_worlds}
use Rattle.bench_model.proofs.SmallLaws.{small_laws}
use Rattle.bench_model.proofs.laws.alike.Goals as goal

pub returns : goal.returns
returns c = λ circuit l k h. alike_worlds (setting circuit l k) (small_laws circuit l k h)
