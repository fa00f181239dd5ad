use Rattle.std.proofs.Common.{refl}
use Rattle.bench_threads.specs.Threads.{with_mark}
use Rattle.bench_threads.proofs.Houses.{changed_on_each}
use Rattle.bench_threads.proofs.queues.Queues.set_marked.Goals as goal

pub invariant_of-self : goal.invariant_of-self
invariant_of-self c = (changed_on_each c.self.inside.drivers c.self.inside.monitors c.self.inside.waiting c.args.self.now c.self.view_is c.self.invariant (with_mark c.args.marked) (λ e. refl)
    c.set_marked-driver.new.self c.set_marked-monitor.new.self c.set_marked-waiting.new.self c.args.path.now
    c.set_marked-driver.ensures.threads c.set_marked-monitor.ensures.threads c.set_marked-waiting.ensures.threads c.set_marked-driver.ensures.room c.set_marked-monitor.ensures.room c.set_marked-waiting.ensures.room).shared

pub returns-clause-threads : goal.returns-clause-threads
returns-clause-threads c = (changed_on_each c.self.inside.drivers c.self.inside.monitors c.self.inside.waiting c.args.self.now c.self.view_is c.self.invariant (with_mark c.args.marked) (λ e. refl)
    c.set_marked-driver.new.self c.set_marked-monitor.new.self c.set_marked-waiting.new.self c.args.path.now
    c.set_marked-driver.ensures.threads c.set_marked-monitor.ensures.threads c.set_marked-waiting.ensures.threads c.set_marked-driver.ensures.room c.set_marked-monitor.ensures.room c.set_marked-waiting.ensures.room).is
