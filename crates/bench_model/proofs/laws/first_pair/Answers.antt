use Rattle.bench_model.proofs.ConflictFacts.{pair_or_free}
use Rattle.bench_model.proofs.laws.first_pair.Goals as goal

pub returns : goal.returns
returns c = λ cone log. pair_or_free cone log
