use Rattle.std.proofs.Common.{ap, false, refl, ◌+◌, ◌-◌, vec_len}
use Rattle.std.specs.Vec.{vec_capacity}
use Rattle.bench_device.specs.Device.{DeviceValue}
use Rattle.bench_course.proofs.Parts.{next_is_course, same_course, next_parts}
use Rattle.bench_course.proofs.course.Course.step.Goals as goal

pub invariant_of-self : goal.invariant_of-self
invariant_of-self g c =
    let before = c.self.inside in
    same_course before.device c.edge.new.self before.observations.items before.samples before.samples (before.time + 1) false
    (next_is_course before.device.elab before.observations.items before.samples before.time before.failed c.self.invariant)
    (ap (λ (d : DeviceValue). d.elab) c.edge.ensures) refl

pub returns-clause-course : goal.returns-clause-course
returns-clause-course g c =
    let before = c.self.inside in
    next_parts c.args.self.now before.device c.edge.new.self before.threads c.tick.new.self before.log.items c.clear.new.self.items before.observations.items before.samples
    before.time before.actions (vec_capacity before.log - vec_len before.log) (vec_capacity before.observations - vec_len before.observations)
    (vec_capacity c.clear.new.self - vec_len c.clear.new.self) (vec_capacity before.observations - vec_len before.observations)
    c.self.view_is c.edge.ensures c.tick.ensures.threads c.clear.ensures.items
