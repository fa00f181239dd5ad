use Rattle.net_core.specs.Nets.{net_reads}
use Rattle.net_graph.specs.NetGraphs.{numbers}
use Rattle.net_graph.proofs.OwnFacts.{no_loops_of_order}
use Rattle.std.proofs.Common.{length}
use Rattle.net_design.proofs.Numbered.{numbered, few_inputs}
use Rattle.net_design.proofs.Ways.{no_loop}
use Rattle.net_design.proofs.design.Design.of_order.Goals as goal

pub cone_table-requires-clause-net : goal.cone_table-requires-clause-net
cone_table-requires-clause-net c = numbered c.args.elab c.args.net c.requires.sized.formed c.requires.net

pub cone_table-requires-clause-inputs : goal.cone_table-requires-clause-inputs
cone_table-requires-clause-inputs c = few_inputs c.args.elab c.args.net c.requires.sized.formed c.requires.net

pub invariant_of-result : goal.invariant_of-result
invariant_of-result c = record {
  runs = record {
    sized = c.requires.sized;
    initialised = c.requires.initialised;
    no_loop = no_loop c.args.elab c.args.net c.requires.sized.formed c.requires.net
        (no_loops_of_order (net_reads c.args.net) c.args.net.own (length c.args.net.signals) (numbers c.args.order)
        (numbered c.args.elab c.args.net c.requires.sized.formed c.requires.net).own c.requires.order);
    net = c.requires.net;
  };
  name = c.requires.name;
  ports = c.requires.ports;
  order = c.requires.order;
  cones = c.in_ok-cones.ensures;
}
