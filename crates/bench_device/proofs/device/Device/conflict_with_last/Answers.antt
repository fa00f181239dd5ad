use Rattle.std.proofs.Common.{◌∙◌}
use Rattle.order_rel.specs.Logs.{log_of}
use Rattle.bench_device.specs.Device.{EngineValue}
use Rattle.bench_device.proofs.SameCones.{of_device}
use Rattle.bench_device.proofs.device.Device.conflict_with_last.Goals as goal

pub returns : goal.returns
returns g c =
    let x = c.self.inside.engine in
    let r : EngineValue = record { net = g.E.Engine.net x; inputs = g.E.Engine.inputs x; registers = g.E.Engine.registers x } in
    c.conflict_with_last.ensures.value
    ∙ of_device c.self.inside.design r c.args.self.now c.cones.result.now c.self.invariant c.self.view_is c.cones.ensures (log_of c.args.log.now) c.requires.named
