use Rattle.bench_setting.specs.Settings.{setting_of}
use Rattle.bench_setting.proofs.SettingFacts.{setting_laws}
use Rattle.bench_orders.proofs.Speaking.{speaks}
use Rattle.bench_orders.proofs.laws.the_first_run_speaks_for_every_order.Goals as goal

pub returns : goal.returns
returns c = λ e net k limits r rule. speaks (setting_of e k limits) (setting_laws e net k limits r rule)
