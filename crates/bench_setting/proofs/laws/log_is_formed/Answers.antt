use Rattle.bench_model.proofs.FormedRuns.{logs_formed}
use Rattle.bench_setting.specs.Settings.{setting_of}
use Rattle.bench_setting.proofs.SettingFacts.{setting_laws}
use Rattle.bench_setting.proofs.laws.log_is_formed.Goals as goal

pub returns : goal.returns
returns c = λ e net k limits r rule. logs_formed (setting_of e k limits) (setting_laws e net k limits r rule)
