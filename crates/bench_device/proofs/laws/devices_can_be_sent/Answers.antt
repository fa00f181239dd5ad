use denote.Param.{param}
use denote.Param.Send.{IsSend, param_send, view_send}
use denote.Param.SendFields.{declared_send, as_row_send}
use denote.Struct.Field.{row_field}
use Rattle.bench_device.specs.contracts.device.Device as device
use Rattle.bench_device.specs.contracts.device.Device.TheInside as inside
use Rattle.bench_device.proofs.Sent.{design_send}
use Rattle.bench_device.proofs.laws.devices_can_be_sent.Goals as goal

pub sent-requires-send-T : goal.sent-requires-send-T
sent-requires-send-T g c κs within =
    let engine : IsSend (param 0 g.row.E) = c.type_bounds.send-E in
    let design = design_send c.sendable.ensures.owned c.sendable-2.ensures.owned in
    let whole : IsSend (device.the_row (param 0 g.row.E) g.E.Engine) =
    view_send _ _ _ _ _ (declared_send (inside.the_type (param 0 g.row.E) g.E.Engine) (design, (as_row_send (row_field (param 0 g.row.E)) engine, tt))) in
    record { owned = whole.owned; leaving = (param_send 0 _ whole).leaving }
