use Rattle.std.proofs.Common.{sym, ap, ◌∙◌}
use Rattle.bench_threads.specs.Queues.{queue_of}
use Rattle.bench_threads.proofs.Houses.{has_room, new_driver, new_monitor, new_waiting}
use Rattle.bench_threads.proofs.queues.Queues.insert.Goals as goal

pub insert-requires-clause-room : goal.insert-requires-clause-room
insert-requires-clause-room c = (has_room c.self.inside.drivers c.self.inside.monitors c.self.inside.waiting c.args.self.now c.self.view_is c.self.invariant c.requires.room).0

pub invariant_of-self : goal.invariant_of-self
invariant_of-self c = (new_driver c.self.inside.drivers c.self.inside.monitors c.self.inside.waiting c.args.self.now c.self.view_is c.self.invariant
    c.insert.new.self c.args.seat.state.path c.args.seat (ap queue_of (sym c.entry.ensures) ∙ sym c.in-Drivers.ensures) c.requires.absent c.requires.room c.insert.ensures.threads c.insert.ensures.room).shared

pub returns-in-Drivers-clause-threads : goal.returns-in-Drivers-clause-threads
returns-in-Drivers-clause-threads c = (new_driver c.self.inside.drivers c.self.inside.monitors c.self.inside.waiting c.args.self.now c.self.view_is c.self.invariant
    c.insert.new.self c.args.seat.state.path c.args.seat (ap queue_of (sym c.entry.ensures) ∙ sym c.in-Drivers.ensures) c.requires.absent c.requires.room c.insert.ensures.threads c.insert.ensures.room).is

pub insert-requires-in-Monitors-clause-room : goal.insert-requires-in-Monitors-clause-room
insert-requires-in-Monitors-clause-room c = (has_room c.self.inside.drivers c.self.inside.monitors c.self.inside.waiting c.args.self.now c.self.view_is c.self.invariant c.requires.room).1

pub invariant_of-self-in-Monitors : goal.invariant_of-self-in-Monitors
invariant_of-self-in-Monitors c = (new_monitor c.self.inside.drivers c.self.inside.monitors c.self.inside.waiting c.args.self.now c.self.view_is c.self.invariant
    c.insert-in-Monitors.new.self c.args.seat.state.path c.args.seat (ap queue_of (sym c.entry.ensures) ∙ sym c.in-Monitors.ensures) c.requires.absent c.requires.room c.insert-in-Monitors.ensures.threads c.insert-in-Monitors.ensures.room).shared

pub returns-in-Monitors-clause-threads : goal.returns-in-Monitors-clause-threads
returns-in-Monitors-clause-threads c = (new_monitor c.self.inside.drivers c.self.inside.monitors c.self.inside.waiting c.args.self.now c.self.view_is c.self.invariant
    c.insert-in-Monitors.new.self c.args.seat.state.path c.args.seat (ap queue_of (sym c.entry.ensures) ∙ sym c.in-Monitors.ensures) c.requires.absent c.requires.room c.insert-in-Monitors.ensures.threads c.insert-in-Monitors.ensures.room).is

pub insert-requires-in-Waiting-clause-room : goal.insert-requires-in-Waiting-clause-room
insert-requires-in-Waiting-clause-room c = (has_room c.self.inside.drivers c.self.inside.monitors c.self.inside.waiting c.args.self.now c.self.view_is c.self.invariant c.requires.room).2

pub invariant_of-self-in-Waiting : goal.invariant_of-self-in-Waiting
invariant_of-self-in-Waiting c = (new_waiting c.self.inside.drivers c.self.inside.monitors c.self.inside.waiting c.args.self.now c.self.view_is c.self.invariant
    c.insert-in-Waiting.new.self c.args.seat.state.path c.args.seat (ap queue_of (sym c.entry.ensures) ∙ sym c.in-Waiting.ensures) c.requires.absent c.requires.room c.insert-in-Waiting.ensures.threads c.insert-in-Waiting.ensures.room).shared

pub returns-in-Waiting-clause-threads : goal.returns-in-Waiting-clause-threads
returns-in-Waiting-clause-threads c = (new_waiting c.self.inside.drivers c.self.inside.monitors c.self.inside.waiting c.args.self.now c.self.view_is c.self.invariant
    c.insert-in-Waiting.new.self c.args.seat.state.path c.args.seat (ap queue_of (sym c.entry.ensures) ∙ sym c.in-Waiting.ensures) c.requires.absent c.requires.room c.insert-in-Waiting.ensures.threads c.insert-in-Waiting.ensures.room).is
