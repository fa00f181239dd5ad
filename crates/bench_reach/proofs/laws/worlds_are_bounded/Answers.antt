use Rattle.bench_setting.specs.Settings.{setting_of}
use Rattle.bench_reach.proofs.Bounding.{worlds_bounded, keeps_registers}
use Rattle.bench_reach.proofs.laws.worlds_are_bounded.Goals as goal

pub returns : goal.returns
returns c = λ e k limits. worlds_bounded (setting_of e k limits) (keeps_registers e k limits)
