use Rattle.std.proofs.Common.{[], ◌∷◌, ap}
use Rattle.bench_model.specs.Paths.{child, is_path}
use Rattle.bench_model.specs.Small.{setting}
use Rattle.bench_model.specs.Examples.{adder, few, by_join}
use Rattle.bench_model.specs.Turned.{outcome_of, joins_always_wait}
use Rattle.bench_model.proofs.TurnedFacts.{turned_computed}
use Rattle.bench_model.proofs.turned.joins_that_wait.Goals as goal

pub returns : goal.returns
unfolding child is_path
returns c = (ap outcome_of (turned_computed (setting adder few by_join) (joins_always_wait (setting adder few by_join)) ([] ∷ (0 ∷ []) ∷ (0 ∷ []) ∷ [] ∷ [])), ap outcome_of (turned_computed (setting adder few by_join) (joins_always_wait (setting adder few by_join)) ([] ∷ [] ∷ (0 ∷ []) ∷ (0 ∷ []) ∷ [] ∷ [] ∷ [])))
