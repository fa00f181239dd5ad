use Rattle.bench_device.proofs.Rows.{filled_more}
use Rattle.bench_device.proofs.device.Device.sample_into.Goals as goal

pub loop-place-preserved : goal.loop-place-preserved
loop-place-preserved g c =
    let p = c.push_reserved.ensures in
    filled_more c.args.self.now c.loop-place.self c.number-number.new.self c.loop-place.numbers.items c.push_reserved.new.self.items _ _ _ c.loop-place.place c.port-port.result
    c.number-number.result _ _ c.loop-place.invariant c.port-port.ensures.signal c.number-number.ensures.number c.number-number.ensures.same p.items p.len p.capacity
