use Rattle.bench_model.specs.Paths.{child, is_path}
use Rattle.bench_setting.specs.Examples.{sum, fails}
use Rattle.bench_setting.proofs.Bodies.{fails_laid}
use Rattle.bench_setting.proofs.Computed.{computed}
use Rattle.bench_setting.proofs.Small.{sum_circuit, of_sum}
use Rattle.bench_setting.proofs.examples.failure_goes_on.Goals as goal

pub returns : goal.returns
unfolding child is_path
returns c = computed sum sum_circuit of_sum fails fails_laid
