use Rattle.sim_plain.specs.Words.{at}
use Rattle.sim_plain.proofs.Exact.{exact_source}
use Rattle.sim_plain.proofs.choices.source_value.Goals as goal

pub returns-in-Some : goal.returns-in-Some
returns-in-Some c = exact_source c.args.signals.now (at c.args.values.now) _ _ _ c.in-Some.is c.computed.ensures
