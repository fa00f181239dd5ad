use Rattle.std.proofs.Common.{ap, ◌∙◌, refl}
use Rattle.bench_device.specs.Device.{DeviceValue}
use Rattle.bench_course.proofs.Parts.{shown_more, same_course}
use Rattle.bench_course.proofs.course.Course.take.Goals as goal

pub invariant_of-self : goal.invariant_of-self
invariant_of-self g c =
    let before = c.self.inside in
    let failed = c.has_failed-self-inside.result in
    same_course before.device c.poke.new.device c.note.new.observations.items before.samples before.samples before.time failed
    (shown_more before.device.elab before.observations.items c.note.new.observations.items before.samples before.time before.failed failed c.from-from.result.now
    c.act-act.result.now c.number_found-number.result c.observed-seen.result c.self.invariant c.observed-seen.ensures c.note.ensures.items c.has_failed-self-inside.ensures)
    (ap (λ (d : DeviceValue). d.elab) c.poke.ensures ∙ ap (λ (d : DeviceValue). d.elab) c.number_found-number.ensures.same) refl
