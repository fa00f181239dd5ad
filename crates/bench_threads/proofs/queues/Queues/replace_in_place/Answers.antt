use Rattle.std.proofs.Common.{sym}
use Rattle.bench_threads.proofs.Houses.{driver_replaced, monitor_replaced, waiting_replaced}
use Rattle.bench_threads.proofs.queues.Queues.replace_in_place.Goals as goal

pub invariant_of-self : goal.invariant_of-self
invariant_of-self c = (driver_replaced c.self.inside.drivers c.self.inside.monitors c.self.inside.waiting c.args.self.now c.self.view_is c.self.invariant
    c.replace.new.self c.replace.result c.args.entry (sym c.in-Drivers.ensures) c.replace.ensures.back c.replace.ensures.threads c.replace.ensures.room).shared

pub returns-in-Drivers-clause-done : goal.returns-in-Drivers-clause-done
returns-in-Drivers-clause-done c = (driver_replaced c.self.inside.drivers c.self.inside.monitors c.self.inside.waiting c.args.self.now c.self.view_is c.self.invariant
    c.replace.new.self c.replace.result c.args.entry (sym c.in-Drivers.ensures) c.replace.ensures.back c.replace.ensures.threads c.replace.ensures.room).done

pub invariant_of-self-in-Monitors : goal.invariant_of-self-in-Monitors
invariant_of-self-in-Monitors c = (monitor_replaced c.self.inside.drivers c.self.inside.monitors c.self.inside.waiting c.args.self.now c.self.view_is c.self.invariant
    c.replace-in-Monitors.new.self c.replace-in-Monitors.result c.args.entry (sym c.in-Monitors.ensures) c.replace-in-Monitors.ensures.back c.replace-in-Monitors.ensures.threads c.replace-in-Monitors.ensures.room).shared

pub returns-in-Monitors-clause-done : goal.returns-in-Monitors-clause-done
returns-in-Monitors-clause-done c = (monitor_replaced c.self.inside.drivers c.self.inside.monitors c.self.inside.waiting c.args.self.now c.self.view_is c.self.invariant
    c.replace-in-Monitors.new.self c.replace-in-Monitors.result c.args.entry (sym c.in-Monitors.ensures) c.replace-in-Monitors.ensures.back c.replace-in-Monitors.ensures.threads c.replace-in-Monitors.ensures.room).done

pub invariant_of-self-in-Waiting : goal.invariant_of-self-in-Waiting
invariant_of-self-in-Waiting c = (waiting_replaced c.self.inside.drivers c.self.inside.monitors c.self.inside.waiting c.args.self.now c.self.view_is c.self.invariant
    c.replace-in-Waiting.new.self c.replace-in-Waiting.result c.args.entry (sym c.in-Waiting.ensures) c.replace-in-Waiting.ensures.back c.replace-in-Waiting.ensures.threads c.replace-in-Waiting.ensures.room).shared

pub returns-in-Waiting-clause-done : goal.returns-in-Waiting-clause-done
returns-in-Waiting-clause-done c = (waiting_replaced c.self.inside.drivers c.self.inside.monitors c.self.inside.waiting c.args.self.now c.self.view_is c.self.invariant
    c.replace-in-Waiting.new.self c.replace-in-Waiting.result c.args.entry (sym c.in-Waiting.ensures) c.replace-in-Waiting.ensures.back c.replace-in-Waiting.ensures.threads c.replace-in-Waiting.ensures.room).done
