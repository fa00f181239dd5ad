use Rattle.bench_model.specs.Paths.{child, is_path}
use Rattle.bench_model.specs.Small.{setting}
use Rattle.bench_model.specs.Examples.{adder, steps_of, three_steps}
use Rattle.bench_model.proofs.Listed.{first_computed}
use Rattle.bench_model.proofs.examples.time_at_its_limit.Goals as goal

pub returns : goal.returns
unfolding child is_path
returns c = first_computed (setting adder three_steps (steps_of 2))
