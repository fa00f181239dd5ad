use Rattle.std.proofs.Common.{[], ◌∷◌}
use Rattle.bench_model.specs.Paths.{child, is_path}
use Rattle.bench_model.specs.Small.{setting}
use Rattle.bench_model.specs.Examples.{adder, few, failure_beside_peek}
use Rattle.bench_model.specs.Turned.{failures_end}
use Rattle.bench_model.proofs.TurnedFacts.{turned_computed}
use Rattle.bench_model.proofs.turned.failures_that_end.Goals as goal

pub returns : goal.returns
unfolding child is_path
returns c = (turned_computed (setting adder few failure_beside_peek) (failures_end (setting adder few failure_beside_peek)) ([] ∷ [] ∷ [] ∷ (0 ∷ []) ∷ (0 ∷ []) ∷ []), turned_computed (setting adder few failure_beside_peek) (failures_end (setting adder few failure_beside_peek)) ([] ∷ [] ∷ (1 ∷ []) ∷ (0 ∷ []) ∷ (0 ∷ []) ∷ []))
