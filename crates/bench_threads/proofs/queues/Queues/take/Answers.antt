use Rattle.std.proofs.Common.{refl, sym, Some}
use Rattle.bench_threads.specs.declared.entry.Queue.TheVariants.{Drivers, Monitors, Waiting}
use Rattle.bench_threads.proofs.Keyed.{remove_absent}
use Rattle.bench_threads.proofs.Houses.{taken, in_drivers, in_monitors, houses_seen, left_room}
use Rattle.bench_threads.proofs.queues.Queues.take.Goals as goal

pub invariant_of-self : goal.invariant_of-self
invariant_of-self c = (taken c.self.inside.drivers c.self.inside.monitors c.self.inside.waiting c.args.self.now c.self.view_is c.self.invariant c.take.new.self c.self.inside.monitors c.self.inside.waiting c.args.path.now c.take.ensures.threads
    (sym (remove_absent c.self.inside.monitors.threads c.args.path.now (in_drivers c.self.inside.drivers c.self.inside.monitors c.self.inside.waiting c.args.self.now c.self.view_is c.self.invariant c.args.path.now c.in-Some.seat (sym c.in-Some.ensures.found)).0)) (sym (remove_absent c.self.inside.waiting.threads c.args.path.now (in_drivers c.self.inside.drivers c.self.inside.monitors c.self.inside.waiting c.args.self.now c.self.view_is c.self.invariant c.args.path.now c.in-Some.seat (sym c.in-Some.ensures.found)).1)) c.take.ensures.room refl refl).shared

pub returns-in-Some-clause-threads : goal.returns-in-Some-clause-threads
returns-in-Some-clause-threads c = (taken c.self.inside.drivers c.self.inside.monitors c.self.inside.waiting c.args.self.now c.self.view_is c.self.invariant c.take.new.self c.self.inside.monitors c.self.inside.waiting c.args.path.now c.take.ensures.threads
    (sym (remove_absent c.self.inside.monitors.threads c.args.path.now (in_drivers c.self.inside.drivers c.self.inside.monitors c.self.inside.waiting c.args.self.now c.self.view_is c.self.invariant c.args.path.now c.in-Some.seat (sym c.in-Some.ensures.found)).0)) (sym (remove_absent c.self.inside.waiting.threads c.args.path.now (in_drivers c.self.inside.drivers c.self.inside.monitors c.self.inside.waiting c.args.self.now c.self.view_is c.self.invariant c.args.path.now c.in-Some.seat (sym c.in-Some.ensures.found)).1)) c.take.ensures.room refl refl).is

pub invariant_of-self-in-Some-take : goal.invariant_of-self-in-Some-take
invariant_of-self-in-Some-take c = (taken c.self.inside.drivers c.self.inside.monitors c.self.inside.waiting c.args.self.now c.self.view_is c.self.invariant c.take.new.self c.take-2.new.self c.self.inside.waiting c.args.path.now c.take.ensures.threads c.take-2.ensures.threads
    (sym (remove_absent c.self.inside.waiting.threads c.args.path.now (in_monitors c.self.inside.drivers c.self.inside.monitors c.self.inside.waiting c.args.self.now c.self.view_is c.self.invariant c.args.path.now c.in-Some-take.seat (sym c.in-Some-take.ensures.found)).1)) c.take.ensures.room c.take-2.ensures.room refl).shared

pub returns-in-Some-take-clause-threads : goal.returns-in-Some-take-clause-threads
returns-in-Some-take-clause-threads c = (taken c.self.inside.drivers c.self.inside.monitors c.self.inside.waiting c.args.self.now c.self.view_is c.self.invariant c.take.new.self c.take-2.new.self c.self.inside.waiting c.args.path.now c.take.ensures.threads c.take-2.ensures.threads
    (sym (remove_absent c.self.inside.waiting.threads c.args.path.now (in_monitors c.self.inside.drivers c.self.inside.monitors c.self.inside.waiting c.args.self.now c.self.view_is c.self.invariant c.args.path.now c.in-Some-take.seat (sym c.in-Some-take.ensures.found)).1)) c.take.ensures.room c.take-2.ensures.room refl).is

pub invariant_of-self-2 : goal.invariant_of-self-2
invariant_of-self-2 c = (taken c.self.inside.drivers c.self.inside.monitors c.self.inside.waiting c.args.self.now c.self.view_is c.self.invariant c.take.new.self c.take-2.new.self c.take-3.new.self c.args.path.now c.take.ensures.threads c.take-2.ensures.threads c.take-3.ensures.threads c.take.ensures.room c.take-2.ensures.room c.take-3.ensures.room).shared

pub returns-clause-threads : goal.returns-clause-threads
returns-clause-threads c = (taken c.self.inside.drivers c.self.inside.monitors c.self.inside.waiting c.args.self.now c.self.view_is c.self.invariant c.take.new.self c.take-2.new.self c.take-3.new.self c.args.path.now c.take.ensures.threads c.take-2.ensures.threads c.take-3.ensures.threads c.take.ensures.room c.take-2.ensures.room c.take-3.ensures.room).is

pub returns-in-Some-clause-spare : goal.returns-in-Some-clause-spare
returns-in-Some-clause-spare c =
    left_room c.self.inside.drivers c.self.inside.monitors c.self.inside.waiting c.args.self.now c.self.view_is c.self.invariant Drivers c.self.inside.drivers.threads c.take.new.self c.self.inside.monitors c.self.inside.waiting c.args.path.now (Some c.in-Some.seat)
    (houses_seen c.self.inside.drivers c.self.inside.monitors c.self.inside.waiting c.args.self.now c.self.view_is c.self.invariant).drivers c.in-Some.ensures.found (taken c.self.inside.drivers c.self.inside.monitors c.self.inside.waiting c.args.self.now c.self.view_is c.self.invariant c.take.new.self c.self.inside.monitors c.self.inside.waiting c.args.path.now c.take.ensures.threads
    (sym (remove_absent c.self.inside.monitors.threads c.args.path.now (in_drivers c.self.inside.drivers c.self.inside.monitors c.self.inside.waiting c.args.self.now c.self.view_is c.self.invariant c.args.path.now c.in-Some.seat (sym c.in-Some.ensures.found)).0)) (sym (remove_absent c.self.inside.waiting.threads c.args.path.now (in_drivers c.self.inside.drivers c.self.inside.monitors c.self.inside.waiting c.args.self.now c.self.view_is c.self.invariant c.args.path.now c.in-Some.seat (sym c.in-Some.ensures.found)).1)) c.take.ensures.room refl refl)

pub returns-in-Some-take-clause-spare : goal.returns-in-Some-take-clause-spare
returns-in-Some-take-clause-spare c =
    left_room c.self.inside.drivers c.self.inside.monitors c.self.inside.waiting c.args.self.now c.self.view_is c.self.invariant Monitors c.self.inside.monitors.threads c.take.new.self c.take-2.new.self c.self.inside.waiting c.args.path.now (Some c.in-Some-take.seat)
    (houses_seen c.self.inside.drivers c.self.inside.monitors c.self.inside.waiting c.args.self.now c.self.view_is c.self.invariant).monitors c.in-Some-take.ensures.found (taken c.self.inside.drivers c.self.inside.monitors c.self.inside.waiting c.args.self.now c.self.view_is c.self.invariant c.take.new.self c.take-2.new.self c.self.inside.waiting c.args.path.now c.take.ensures.threads c.take-2.ensures.threads
    (sym (remove_absent c.self.inside.waiting.threads c.args.path.now (in_monitors c.self.inside.drivers c.self.inside.monitors c.self.inside.waiting c.args.self.now c.self.view_is c.self.invariant c.args.path.now c.in-Some-take.seat (sym c.in-Some-take.ensures.found)).1)) c.take.ensures.room c.take-2.ensures.room refl)

pub returns-clause-spare : goal.returns-clause-spare
returns-clause-spare c =
    left_room c.self.inside.drivers c.self.inside.monitors c.self.inside.waiting c.args.self.now c.self.view_is c.self.invariant Waiting c.self.inside.waiting.threads c.take.new.self c.take-2.new.self c.take-3.new.self c.args.path.now c.take-3.result
    (houses_seen c.self.inside.drivers c.self.inside.monitors c.self.inside.waiting c.args.self.now c.self.view_is c.self.invariant).waiting c.take-3.ensures.found (taken c.self.inside.drivers c.self.inside.monitors c.self.inside.waiting c.args.self.now c.self.view_is c.self.invariant c.take.new.self c.take-2.new.self c.take-3.new.self c.args.path.now c.take.ensures.threads c.take-2.ensures.threads c.take-3.ensures.threads c.take.ensures.room c.take-2.ensures.room c.take-3.ensures.room)
