use Rattle.bench_device.specs.Device.{EngineValue}
use Rattle.bench_device.proofs.Rows.{port_of}
use Rattle.bench_device.proofs.device.Device.port.Goals as goal

pub returns-clause-within : goal.returns-clause-within
returns-clause-within g c =
    let x = c.self.inside.engine in
    let r : EngineValue = record { net = g.E.Engine.net x; inputs = g.E.Engine.inputs x; registers = g.E.Engine.registers x } in
    (port_of c.self.inside.design r c.args.self.now c.ports.result.now c.args.place _ c.self.view_is c.ports.ensures c.in-Some.ensures).within
