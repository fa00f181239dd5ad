use Rattle.out_text.proofs.Outlines.{port_listed}
use Rattle.out_text.proofs.outline.put_input_at.Goals as goal

pub is_in_cone-requires-clause-port : goal.is_in_cone-requires-clause-port
is_in_cone-requires-clause-port c = port_listed c.args.design.now.elab c.ports.result.now c.args.k (c.in-Some.name.now, c.in-Some.port) c.ports.ensures c.in-Some.ensures
