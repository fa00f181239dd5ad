use Rattle.net_core.proofs.FormedFacts.{connected_sinks}
use Rattle.net_core.proofs.laws.each_sink_has_a_connect.Goals as goal

pub returns : goal.returns
returns c = connected_sinks
