use Rattle.bench_model.proofs.FormedBefore.{before_anywhere}
use Rattle.bench_model.proofs.laws.before_anywhere.Goals as goal

pub returns : goal.returns
returns c = λ log f i j. before_anywhere log f i j
