use Rattle.bench_model.proofs.TwoMoves.{was_enabled}
use Rattle.bench_setting.specs.Settings.{setting_of}
use Rattle.bench_setting.proofs.SettingFacts.{setting_laws}
use Rattle.bench_setting.proofs.laws.enabled_before.Goals as goal

pub returns : goal.returns
returns c = λ e net k limits r rule. was_enabled (setting_of e k limits) (setting_laws e net k limits r rule)
