use Rattle.bench_model.specs.Paths.{child, is_path}
use Rattle.bench_model.specs.Small.{setting}
use Rattle.bench_model.specs.Examples.{adder, pokes_of, four_actions}
use Rattle.bench_model.proofs.Listed.{first_computed}
use Rattle.bench_model.proofs.examples.actions_past_their_limit.Goals as goal

pub returns : goal.returns
unfolding child is_path
returns c = first_computed (setting adder four_actions (pokes_of 4))
