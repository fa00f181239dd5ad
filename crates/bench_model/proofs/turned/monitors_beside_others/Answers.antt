use Rattle.std.proofs.Common.{[], ◌∷◌, ap}
use Rattle.bench_model.specs.Paths.{child, is_path}
use Rattle.bench_model.specs.Small.{setting}
use Rattle.bench_model.specs.Examples.{adder, few, by_region}
use Rattle.bench_model.specs.Turned.{outcome_of}
use Rattle.bench_model.proofs.TurnedFacts.{running_computed, enabled_computed}
use Rattle.bench_model.proofs.Listed.{run_computed}
use Rattle.bench_model.proofs.turned.monitors_beside_others.Goals as goal

pub returns : goal.returns
unfolding child is_path
returns c = (running_computed (setting adder few by_region) ([] ∷ []) (0 ∷ []), enabled_computed (setting adder few by_region) ([] ∷ []) (0 ∷ []), ap outcome_of (run_computed (setting adder few by_region) ([] ∷ (0 ∷ []) ∷ [] ∷ [])))
