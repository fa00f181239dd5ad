use Rattle.bench_setting.proofs.SettingFacts.{setting_laws}
use Rattle.bench_setting.proofs.laws.laws_of_orders.Goals as goal

pub returns : goal.returns
returns c = setting_laws
