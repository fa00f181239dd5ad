use Rattle.bench_model.proofs.TwoMoves.{stays}
use Rattle.bench_setting.specs.Settings.{setting_of}
use Rattle.bench_setting.proofs.SettingFacts.{setting_laws}
use Rattle.bench_setting.proofs.laws.stays_enabled.Goals as goal

pub returns : goal.returns
returns c = λ e net k limits r rule. stays (setting_of e k limits) (setting_laws e net k limits r rule)
