use Rattle.bench_device.specs.Device.{EngineValue}
use Rattle.bench_device.proofs.Engines.{is_input_of, poked_device, poke_shown}
use Rattle.bench_device.proofs.device.Device.poke.Goals as goal

pub poke-requires : goal.poke-requires
poke-requires g c =
    let x = c.self.inside.engine in
    let r : EngineValue = record { net = g.E.Engine.net x; inputs = g.E.Engine.inputs x; registers = g.E.Engine.registers x } in
    is_input_of c.self.inside.design r c.args.self.now c.args.input.0 c.self.invariant c.self.view_is c.requires

pub invariant_of-self : goal.invariant_of-self
invariant_of-self g c =
    let x = c.self.inside.engine in
    let y = c.poke.new.self in
    let r : EngineValue = record { net = g.E.Engine.net x; inputs = g.E.Engine.inputs x; registers = g.E.Engine.registers x } in
    let r2 : EngineValue = record { net = g.E.Engine.net y; inputs = g.E.Engine.inputs y; registers = g.E.Engine.registers y } in
    poked_device c.self.inside.design r r2 c.args.self.now c.args.input.0 c.args.raw c.self.invariant c.self.view_is c.requires
    (record { net = c.poke.ensures.net; inputs = c.poke.ensures.inputs; registers = c.poke.ensures.registers })

pub returns : goal.returns
returns g c =
    let x = c.self.inside.engine in
    let y = c.poke.new.self in
    let r : EngineValue = record { net = g.E.Engine.net x; inputs = g.E.Engine.inputs x; registers = g.E.Engine.registers x } in
    let r2 : EngineValue = record { net = g.E.Engine.net y; inputs = g.E.Engine.inputs y; registers = g.E.Engine.registers y } in
    poke_shown c.self.inside.design r r2 c.args.self.now c.args.input.0 c.args.raw c.self.invariant c.self.view_is c.requires
    (record { net = c.poke.ensures.net; inputs = c.poke.ensures.inputs; registers = c.poke.ensures.registers })
