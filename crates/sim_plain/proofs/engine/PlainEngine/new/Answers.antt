use Rattle.std.proofs.Common.{sym, subst, List, length}
use Rattle.net_core.specs.declared.ports.Signal.{Signal}
use Rattle.net_core.specs.declared.tree.Net.{Net}
use Rattle.net_core.specs.Nets.{net_reads}
use Rattle.net_graph.specs.Graphs.{IsOrder}
use Rattle.sim_plain.specs.Ready.{Fits, InOrder, numbers}
use Rattle.sim_plain.proofs.Designs.{sized_nets_fit, in_order}
use Rattle.sim_plain.proofs.engine.PlainEngine.new.Goals as goal

pub over-requires-clause-fits : goal.over-requires-clause-fits
over-requires-clause-fits c =
    subst (λ (m : Net). Fits m) (sym c.net.ensures.is)
    (sized_nets_fit c.args.design.now.elab c.args.design.now.net c.net.ensures.runs.sized c.net.ensures.runs.net)

pub over-requires-clause-order : goal.over-requires-clause-order
over-requires-clause-order c =
    subst (λ (m : Net). InOrder m (numbers c.order.result.now)) (sym c.net.ensures.is)
    (in_order c.args.design.now.net (numbers c.order.result.now)
    (subst (λ (s : List Signal). IsOrder (net_reads c.args.design.now.net) (length c.args.design.now.net.signals) (numbers s)) (sym c.order.ensures) c.levels.ensures))
