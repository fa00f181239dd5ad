use Rattle.std.proofs.Common.{◌∙◌, refl}
use Rattle.tl_threads.proofs.NameFacts.{looked_up}
use Rattle.bench_model.specs.Paths.{child, is_path}
use Rattle.bench_setting.specs.Examples.{sum, reads_back}
use Rattle.bench_setting.proofs.Bodies.{reads_back_laid}
use Rattle.bench_setting.proofs.Computed.{computed}
use Rattle.bench_setting.proofs.Small.{sum_circuit, of_sum}
use Rattle.bench_setting.proofs.examples.peeked_number_poked.Goals as goal

pub returns : goal.returns
unfolding child is_path
returns c = computed sum sum_circuit of_sum reads_back reads_back_laid ∙ simp looked_up refl
