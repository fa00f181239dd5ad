-- A test that keeps the rules, over a circuit that runs, is what the laws of orders ask for.
use Rattle.bench_model.specs.Settle.{SettingLaws}
use Rattle.net_design.specs.Naming.{in_cone}
use Rattle.net_design.specs.Settling.{number_at}
use Rattle.tl_threads.specs.Threads.{most_local}
use Rattle.tl_threads.proofs.Regions.{threads_meet_laws, root_fits}
use Rattle.bench_setting.specs.Settings.{AtEachTest, fitted_to}
use Rattle.bench_setting.proofs.Apart.{number_apart}

pub setting_laws : AtEachTest SettingLaws
setting_laws e m k limits r rule = record {
  model = threads_meet_laws most_local (fitted_to e) (number_at e) (in_cone e) (λ ins regs s p v out. number_apart e m r ins regs s p v out);
  root = root_fits k.ports k.test rule;
}
