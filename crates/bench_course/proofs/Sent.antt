-- What a course holds may be handed to other threads.
use denote.Param.Send.{IsSend, sendable}
use Rattle.std.proofs.Crossing.{crosses, Vec-send}
use Rattle.std.specs.contracts.vec.Vec as Vec
use Rattle.std.specs.contracts.alloc.Global as heap
use Rattle.std.specs.contracts.impls.GlobalAllocator.TheImpl.{ghosts}
use Rattle.tb_base.specs.contracts.path.Path as path
use Rattle.order_rel.specs.contracts.event.Event as event
use Rattle.bench_run.specs.contracts.observation.Observation as observation
use Rattle.bench_course.specs.contracts.samples.Samples as samples

path_send : IsSend path.the_row
path_send = search (sendable, crosses) depth 40

event_send : IsSend event.the_row
event_send = search (path_send, sendable, crosses) depth 40

observation_send : IsSend observation.the_row
observation_send = search (sendable, crosses) depth 40

pub log_send : IsSend (Vec.the_row event.the_row heap.the_row ghosts)
log_send = Vec-send event.the_row event_send

pub observations_send : IsSend (Vec.the_row observation.the_row heap.the_row ghosts)
observations_send = Vec-send observation.the_row observation_send

pub samples_send : IsSend samples.the_row
samples_send = search (sendable, crosses) depth 40
