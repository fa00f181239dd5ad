use Rattle.std.proofs.Common.{[], ◌∷◌, ap}
use Rattle.bench_model.specs.Paths.{child, is_path}
use Rattle.bench_model.specs.Small.{setting}
use Rattle.bench_model.specs.Examples.{adder, few, two_pokes, three_pokes}
use Rattle.bench_model.specs.Turned.{outcome_of, values_count}
use Rattle.bench_model.proofs.TurnedFacts.{turned_computed}
use Rattle.bench_model.proofs.turned.values_that_count.Goals as goal

pub returns : goal.returns
unfolding child is_path
returns c = (ap outcome_of (turned_computed (setting adder few two_pokes) (values_count (setting adder few two_pokes)) ([] ∷ [] ∷ [] ∷ (0 ∷ []) ∷ (0 ∷ []) ∷ [] ∷ (1 ∷ []) ∷ (1 ∷ []) ∷ [] ∷ [])), ap outcome_of (turned_computed (setting adder few three_pokes) (values_count (setting adder few three_pokes)) ([] ∷ [] ∷ [] ∷ (0 ∷ []) ∷ (0 ∷ []) ∷ (0 ∷ []) ∷ [] ∷ (1 ∷ []) ∷ (1 ∷ []) ∷ [] ∷ [])), ap outcome_of (turned_computed (setting adder few three_pokes) (values_count (setting adder few three_pokes)) ([] ∷ [] ∷ [] ∷ (1 ∷ []) ∷ (0 ∷ []) ∷ [])))
