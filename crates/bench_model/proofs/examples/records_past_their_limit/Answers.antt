use Rattle.bench_model.specs.Paths.{child, is_path}
use Rattle.bench_model.specs.Small.{setting}
use Rattle.bench_model.specs.Examples.{adder, peeks_of, two_records}
use Rattle.bench_model.proofs.Listed.{first_computed}
use Rattle.bench_model.proofs.examples.records_past_their_limit.Goals as goal

pub returns : goal.returns
unfolding child is_path
returns c = (first_computed (setting adder two_records (peeks_of 2)), first_computed (setting adder two_records (peeks_of 3)))
