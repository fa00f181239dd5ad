use denote.Param.{param}
use denote.Param.Send.{IsSend, sendable, param_send, view_send}
use denote.Param.SendFields.{declared_send, as_row_send}
use denote.Struct.Field.{row_field}
use Rattle.std.proofs.Crossing.{crosses}
use Rattle.bench_device.specs.contracts.device.Device as device
use Rattle.bench_device.specs.contracts.device.Device.TheInside as device_inside
use Rattle.bench_device.proofs.Sent.{design_send}
use Rattle.bench_threads.specs.contracts.table.ThreadTable as table
use Rattle.bench_course.specs.contracts.course.Course as course
use Rattle.bench_course.specs.contracts.course.Course.TheInside as inside
use Rattle.bench_course.proofs.Sent.{log_send, observations_send, samples_send}
use Rattle.bench_course.proofs.laws.courses_can_be_sent.Goals as goal

pub sent-requires-send-T : goal.sent-requires-send-T
sent-requires-send-T g c κs within =
    let engine : IsSend (param 0 g.row.E) = c.type_bounds.send-E in
    let design = design_send c.sendable.ensures.owned c.sendable-2.ensures.owned in
    let device_send : IsSend (device.the_row (param 0 g.row.E) g.E.Engine) =
    view_send _ _ _ _ _ (declared_send (device_inside.the_type (param 0 g.row.E) g.E.Engine) (design, (as_row_send (row_field (param 0 g.row.E)) engine, tt))) in
    let threads : IsSend table.the_row = record { owned = c.sendable-3.ensures.owned; leaving = λ k x w. tt } in
    let whole : IsSend (course.the_row (param 0 g.row.E) g.E.Engine) =
    view_send _ _ _ _ _ (declared_send (inside.the_type (param 0 g.row.E) g.E.Engine)
    (device_send, (threads, (log_send, (observations_send, (samples_send, (search (sendable, crosses) depth 40, (search (sendable, crosses) depth 40, (search (sendable, crosses) depth 40, tt))))))))) in
    record { owned = whole.owned; leaving = (param_send 0 _ whole).leaving }
