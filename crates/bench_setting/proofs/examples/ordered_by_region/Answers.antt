use Rattle.bench_model.specs.Paths.{child, is_path}
use Rattle.bench_setting.specs.Examples.{sum, watched}
use Rattle.bench_setting.proofs.Bodies.{watched_laid}
use Rattle.bench_setting.proofs.Computed.{computed}
use Rattle.bench_setting.proofs.Small.{sum_circuit, of_sum}
use Rattle.bench_setting.proofs.examples.ordered_by_region.Goals as goal

pub returns : goal.returns
unfolding child is_path
returns c = computed sum sum_circuit of_sum watched watched_laid
