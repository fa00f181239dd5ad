use Rattle.bench_model.specs.Paths.{child, is_path}
use Rattle.bench_model.specs.Small.{setting}
use Rattle.bench_model.specs.Examples.{delay, few, past_register}
use Rattle.bench_model.proofs.Listed.{first_computed}
use Rattle.bench_model.proofs.examples.cone_ends_at_register.Goals as goal

pub returns : goal.returns
unfolding child is_path
returns c = first_computed (setting delay few past_register)
