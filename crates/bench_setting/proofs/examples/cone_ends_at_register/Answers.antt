use Rattle.bench_model.specs.Paths.{child, is_path}
use Rattle.net_core.specs.Examples.{delay}
use Rattle.bench_setting.specs.Examples.{past_register}
use Rattle.bench_setting.proofs.Bodies.{past_register_laid}
use Rattle.bench_setting.proofs.Computed.{computed}
use Rattle.bench_setting.proofs.Small.{delay_circuit, of_delay}
use Rattle.bench_setting.proofs.examples.cone_ends_at_register.Goals as goal

pub returns : goal.returns
unfolding child is_path
returns c = computed delay delay_circuit of_delay past_register past_register_laid
