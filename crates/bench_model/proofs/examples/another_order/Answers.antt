use Rattle.std.proofs.Common.{[], ◌∷◌}
use Rattle.bench_model.specs.Paths.{child, is_path}
use Rattle.bench_model.specs.Small.{setting}
use Rattle.bench_model.specs.Examples.{adder, few, failure_beside_peek}
use Rattle.bench_model.proofs.Listed.{run_computed}
use Rattle.bench_model.proofs.examples.another_order.Goals as goal

pub returns : goal.returns
unfolding child is_path
returns c = run_computed (setting adder few failure_beside_peek) ([] ∷ [] ∷ (1 ∷ []) ∷ (1 ∷ []) ∷ (0 ∷ []) ∷ (0 ∷ []) ∷ [] ∷ (0 ∷ []) ∷ [] ∷ [] ∷ [])
