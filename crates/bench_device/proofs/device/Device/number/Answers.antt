use Rattle.std.proofs.Common.{◌∙◌}
use Rattle.bench_device.specs.Device.{EngineValue}
use Rattle.bench_device.proofs.Engines.{signal_of, number_shown, same_device, same_shown}
use Rattle.bench_device.proofs.device.Device.number.Goals as goal

pub value-requires : goal.value-requires
value-requires g c =
    let x = c.self.inside.engine in
    let r : EngineValue = record { net = g.E.Engine.net x; inputs = g.E.Engine.inputs x; registers = g.E.Engine.registers x } in
    signal_of c.self.inside.design r c.args.self.now c.args.signal.0 c.self.invariant c.self.view_is c.requires

pub invariant_of-self : goal.invariant_of-self
invariant_of-self g c =
    let x = c.self.inside.engine in
    let y = c.value.new.self in
    let r : EngineValue = record { net = g.E.Engine.net x; inputs = g.E.Engine.inputs x; registers = g.E.Engine.registers x } in
    let r2 : EngineValue = record { net = g.E.Engine.net y; inputs = g.E.Engine.inputs y; registers = g.E.Engine.registers y } in
    same_device c.self.inside.design r r2 c.self.invariant (record { net = c.value.ensures.net; inputs = c.value.ensures.inputs; registers = c.value.ensures.registers })

pub returns-clause-number : goal.returns-clause-number
returns-clause-number g c =
    let x = c.self.inside.engine in
    let r : EngineValue = record { net = g.E.Engine.net x; inputs = g.E.Engine.inputs x; registers = g.E.Engine.registers x } in
    c.word.ensures ∙ number_shown c.self.inside.design r c.args.self.now c.args.signal.0 c.value.result c.self.invariant c.self.view_is c.requires c.value.ensures.value

pub returns-clause-same : goal.returns-clause-same
returns-clause-same g c =
    let x = c.self.inside.engine in
    let y = c.value.new.self in
    let r : EngineValue = record { net = g.E.Engine.net x; inputs = g.E.Engine.inputs x; registers = g.E.Engine.registers x } in
    let r2 : EngineValue = record { net = g.E.Engine.net y; inputs = g.E.Engine.inputs y; registers = g.E.Engine.registers y } in
    same_shown c.self.inside.design r r2 c.args.self.now c.self.view_is (record { net = c.value.ensures.net; inputs = c.value.ensures.inputs; registers = c.value.ensures.registers })
