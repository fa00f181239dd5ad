use Rattle.bench_model.proofs.Theorem.{first_order_ends}
use Rattle.bench_setting.specs.Settings.{setting_of}
use Rattle.bench_setting.proofs.SettingFacts.{setting_laws}
use Rattle.bench_setting.proofs.laws.first_order_ends.Goals as goal

pub returns : goal.returns
returns c = λ e net k limits r rule. first_order_ends (setting_of e k limits) (setting_laws e net k limits r rule)
