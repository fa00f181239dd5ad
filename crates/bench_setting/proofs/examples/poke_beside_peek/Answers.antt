use Rattle.bench_model.specs.Paths.{child, is_path}
use Rattle.bench_setting.specs.Examples.{sum, race}
use Rattle.bench_setting.proofs.Bodies.{race_laid}
use Rattle.bench_setting.proofs.Computed.{computed}
use Rattle.bench_setting.proofs.Small.{sum_circuit, of_sum}
use Rattle.bench_setting.proofs.examples.poke_beside_peek.Goals as goal

pub returns : goal.returns
unfolding child is_path
returns c = computed sum sum_circuit of_sum race race_laid
