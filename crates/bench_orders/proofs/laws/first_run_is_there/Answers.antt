use Rattle.bench_setting.specs.Settings.{setting_of}
use Rattle.bench_setting.proofs.SettingFacts.{setting_laws}
use Rattle.bench_orders.proofs.Speaking.{has_first}
use Rattle.bench_orders.proofs.laws.first_run_is_there.Goals as goal

pub returns : goal.returns
returns c = λ e net k limits r rule. has_first (setting_of e k limits) (setting_laws e net k limits r rule)
