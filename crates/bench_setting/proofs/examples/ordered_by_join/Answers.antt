use Rattle.std.proofs.Common.{◌∙◌, refl}
use Rattle.tl_threads.proofs.NameFacts.{looked_up}
use Rattle.bench_model.specs.Paths.{child, is_path}
use Rattle.bench_setting.specs.Examples.{sum, joined}
use Rattle.bench_setting.proofs.Bodies.{joined_laid}
use Rattle.bench_setting.proofs.Computed.{computed}
use Rattle.bench_setting.proofs.Small.{sum_circuit, of_sum}
use Rattle.bench_setting.proofs.examples.ordered_by_join.Goals as goal

pub returns : goal.returns
unfolding child is_path
returns c = computed sum sum_circuit of_sum joined joined_laid ∙ simp looked_up refl
