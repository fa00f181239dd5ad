use Rattle.bench_model.specs.Paths.{child, is_path}
use Rattle.bench_model.specs.Small.{setting}
use Rattle.bench_model.specs.Examples.{adder, children_of, two_threads}
use Rattle.bench_model.proofs.Listed.{first_computed}
use Rattle.bench_model.proofs.examples.threads_past_their_limit.Goals as goal

pub returns : goal.returns
unfolding child is_path
returns c = first_computed (setting adder two_threads (children_of 2))
