use Rattle.bench_model.specs.Paths.{child, is_path}
use Rattle.bench_model.specs.Small.{setting}
use Rattle.bench_model.specs.Examples.{adder, few, by_region}
use Rattle.bench_model.proofs.Listed.{first_computed}
use Rattle.bench_model.proofs.examples.ordered_by_region.Goals as goal

pub returns : goal.returns
unfolding child is_path
returns c = first_computed (setting adder few by_region)
