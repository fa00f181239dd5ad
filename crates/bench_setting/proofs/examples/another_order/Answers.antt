use Rattle.std.proofs.Common.{[], ◌∷◌}
use Rattle.bench_model.specs.Paths.{child, is_path}
use Rattle.bench_setting.specs.Examples.{sum, apart}
use Rattle.bench_setting.proofs.Bodies.{apart_laid}
use Rattle.bench_setting.proofs.Computed.{order_computed}
use Rattle.bench_setting.proofs.Small.{sum_circuit, of_sum}
use Rattle.bench_setting.proofs.examples.another_order.Goals as goal

pub returns : goal.returns
unfolding child is_path
returns c = order_computed sum sum_circuit of_sum apart apart_laid ([] ∷ (0 ∷ []) ∷ (0 ∷ []) ∷ [] ∷ [] ∷ [])
