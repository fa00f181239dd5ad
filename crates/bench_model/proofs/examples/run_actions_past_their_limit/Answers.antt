use Rattle.bench_model.specs.Paths.{child, is_path}
use Rattle.bench_model.specs.Small.{setting}
use Rattle.bench_model.specs.Examples.{adder, peeks_of, three_run_actions}
use Rattle.bench_model.proofs.Listed.{first_computed}
use Rattle.bench_model.proofs.examples.run_actions_past_their_limit.Goals as goal

pub returns : goal.returns
unfolding child is_path
returns c = (first_computed (setting adder three_run_actions (peeks_of 2)), first_computed (setting adder three_run_actions (peeks_of 3)))
