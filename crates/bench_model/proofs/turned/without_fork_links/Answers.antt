use Rattle.std.proofs.Common.{[], ◌∷◌, true, false}
use Rattle.bench_model.specs.Paths.{child, is_path}
use Rattle.bench_model.specs.Small.{setting}
use Rattle.bench_model.specs.Examples.{adder, few, by_fork}
use Rattle.bench_model.specs.Turned.{with_links}
use Rattle.bench_model.proofs.TurnedFacts.{conflict_computed}
use Rattle.bench_model.proofs.turned.without_fork_links.Goals as goal

pub returns : goal.returns
unfolding child is_path
returns c = conflict_computed (setting adder few by_fork) (with_links (setting adder few by_fork) true false true true) ([] ∷ [] ∷ [] ∷ (0 ∷ []) ∷ [])
