use Rattle.net_design.proofs.Rounds.{settled_rounds, settled_is, led, leads}
use Rattle.net_design.proofs.Showing.{shown_value, shown_edge, edge_below, kept_at, kept_length}
use Rattle.net_design.proofs.laws.settled_values_are_settled.Goals as goal

pub returns-clause-settled : goal.returns-clause-settled
returns-clause-settled c = settled_rounds

pub returns-clause-only : goal.returns-clause-only
returns-clause-only c = settled_is
