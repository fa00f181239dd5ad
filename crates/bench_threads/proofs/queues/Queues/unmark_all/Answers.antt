use Rattle.std.proofs.Common.{refl, false}
use Rattle.bench_threads.specs.Threads.{with_mark}
use Rattle.bench_threads.proofs.Houses.{all_on_each}
use Rattle.bench_threads.proofs.queues.Queues.unmark_all.Goals as goal

pub invariant_of-self : goal.invariant_of-self
invariant_of-self c = (all_on_each c.self.inside.drivers c.self.inside.monitors c.self.inside.waiting c.args.self.now c.self.view_is c.self.invariant (with_mark false) (λ e. refl)
    c.unmark_all.new.self c.unmark_all-2.new.self c.unmark_all-3.new.self
    c.unmark_all.ensures.threads c.unmark_all-2.ensures.threads c.unmark_all-3.ensures.threads c.unmark_all.ensures.room c.unmark_all-2.ensures.room c.unmark_all-3.ensures.room).shared

pub returns-clause-threads : goal.returns-clause-threads
returns-clause-threads c = (all_on_each c.self.inside.drivers c.self.inside.monitors c.self.inside.waiting c.args.self.now c.self.view_is c.self.invariant (with_mark false) (λ e. refl)
    c.unmark_all.new.self c.unmark_all-2.new.self c.unmark_all-3.new.self
    c.unmark_all.ensures.threads c.unmark_all-2.ensures.threads c.unmark_all-3.ensures.threads c.unmark_all.ensures.room c.unmark_all-2.ensures.room c.unmark_all-3.ensures.room).is
