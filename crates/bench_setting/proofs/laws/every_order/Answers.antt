use Rattle.bench_model.proofs.Theorem.{every_order}
use Rattle.bench_setting.specs.Settings.{setting_of}
use Rattle.bench_setting.proofs.SettingFacts.{setting_laws}
use Rattle.bench_setting.proofs.laws.every_order.Goals as goal

pub returns : goal.returns
returns c = λ e net k limits r rule. every_order (setting_of e k limits) (setting_laws e net k limits r rule)
