use Rattle.std.proofs.Common.{◌≡◌, arith, min}
use Rattle.bench_threads.proofs.Houses.{len_parts, room_seen, room_is}
use Rattle.bench_threads.proofs.queues.Queues.len.Goals as goal

pub returns-clause-is : goal.returns-clause-is
returns-clause-is c = let e = len_parts c.self.inside.drivers c.self.inside.monitors c.self.inside.waiting c.args.self.now c.self.view_is c.self.invariant in omega (arith, c.len.ensures.is, c.len-2.ensures.is, c.len-3.ensures.is)

pub overflow_add-result-2 : goal.overflow_add-result-2
overflow_add-result-2 c =
    let e = len_parts c.self.inside.drivers c.self.inside.monitors c.self.inside.waiting c.args.self.now c.self.view_is c.self.invariant in
    let r = room_seen c.self.inside.drivers c.self.inside.monitors c.self.inside.waiting c.args.self.now c.self.view_is c.self.invariant in
    let n : min c.self.inside.drivers.room (min c.self.inside.monitors.room c.self.inside.waiting.room) ≡ c.args.self.now.room = room_is c.self.inside.drivers c.self.inside.monitors c.self.inside.waiting c.args.self.now c.self.view_is c.self.invariant in
    omega (arith, c.len.ensures.bound)
