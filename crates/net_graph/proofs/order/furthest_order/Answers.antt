use Rattle.net_graph.proofs.OrderFacts.{furthest}
use Rattle.net_graph.proofs.order.furthest_order.Goals as goal

pub returns-then-not-branch : goal.returns-then-not-branch
returns-then-not-branch c =
    furthest c.args.lists.now c.sweep.new.order.items c.sweep.new.taken c.in_ok-sweep.ensures.taken (c.in_ok-sweep.ensures.stuck c.if-not-branch.true)
