use Rattle.bench_device.specs.Device.{EngineValue}
use Rattle.bench_device.proofs.Engines.{edge_device, edge_shown}
use Rattle.bench_device.proofs.device.Device.edge.Goals as goal

pub invariant_of-self : goal.invariant_of-self
invariant_of-self g c =
    let x = c.self.inside.engine in
    let y = c.edge.new.self in
    let r : EngineValue = record { net = g.E.Engine.net x; inputs = g.E.Engine.inputs x; registers = g.E.Engine.registers x } in
    let r2 : EngineValue = record { net = g.E.Engine.net y; inputs = g.E.Engine.inputs y; registers = g.E.Engine.registers y } in
    edge_device c.self.inside.design r r2 c.self.invariant
    (record { net = c.edge.ensures.net; inputs = c.edge.ensures.inputs; registers = c.edge.ensures.registers })

pub returns : goal.returns
returns g c =
    let x = c.self.inside.engine in
    let y = c.edge.new.self in
    let r : EngineValue = record { net = g.E.Engine.net x; inputs = g.E.Engine.inputs x; registers = g.E.Engine.registers x } in
    let r2 : EngineValue = record { net = g.E.Engine.net y; inputs = g.E.Engine.inputs y; registers = g.E.Engine.registers y } in
    edge_shown c.self.inside.design r r2 c.args.self.now c.self.invariant c.self.view_is
    (record { net = c.edge.ensures.net; inputs = c.edge.ensures.inputs; registers = c.edge.ensures.registers })
