use Rattle.out_text.proofs.Outlines.{port_listed}
use Rattle.out_text.proofs.outline.put_port_at.Goals as goal

pub put_port-requires : goal.put_port-requires
put_port-requires c = port_listed c.args.design.now.elab c.ports.result.now c.args.k (c.in-Some.name.now, c.in-Some.port) c.ports.ensures c.in-Some.ensures
