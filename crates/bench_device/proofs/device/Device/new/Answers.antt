use Rattle.bench_device.specs.Device.{EngineValue}
use Rattle.bench_device.proofs.Engines.{first_device, first_shown}
use Rattle.bench_device.proofs.device.Device.new.Goals as goal

pub invariant_of-result : goal.invariant_of-result
invariant_of-result g c =
    let r : EngineValue = record { net = g.E.Engine.net c.args.engine; inputs = g.E.Engine.inputs c.args.engine; registers = g.E.Engine.registers c.args.engine } in
    first_device c.args.design r c.elab-circuit.ensures.runs (record { net = c.requires.net; inputs = c.requires.inputs; registers = c.requires.registers })

pub returns : goal.returns
returns g c =
    let r : EngineValue = record { net = g.E.Engine.net c.args.engine; inputs = g.E.Engine.inputs c.args.engine; registers = g.E.Engine.registers c.args.engine } in
    first_shown c.args.design r c.elab-circuit.ensures.runs (record { net = c.requires.net; inputs = c.requires.inputs; registers = c.requires.registers })
