use Rattle.std.proofs.Common.{subst, sym}
use Rattle.net_graph.specs.NetGraphs.{IsNumbered}
use Rattle.conflict_core.proofs.WireFacts.{wire_numbered}
use Rattle.conflict_core.proofs.tests.wire_table.Goals as goal

pub levels-requires : goal.levels-requires
levels-requires c = subst IsNumbered (sym c.in-Ok.ensures) wire_numbered

pub cone_table-requires-clause-net : goal.cone_table-requires-clause-net
cone_table-requires-clause-net c = subst IsNumbered (sym c.in-Ok.ensures) wire_numbered
