use Rattle.std.proofs.Common.{sym, ◌∙◌}
use Rattle.bench_threads.proofs.Houses.{houses_seen}
use Rattle.bench_threads.proofs.Acting.{least_driver, least_monitor}
use Rattle.bench_threads.proofs.queues.Queues.least_unmarked.Goals as goal

pub returns-then-is_empty : goal.returns-then-is_empty
returns-then-is_empty c =
    c.first_unmarked.ensures ∙ sym (least_monitor c.args.self.now.threads c.self.inside.drivers.threads c.self.inside.monitors.threads c.self.inside.waiting.threads (houses_seen c.self.inside.drivers c.self.inside.monitors c.self.inside.waiting c.args.self.now c.self.view_is c.self.invariant) (sym c.is_empty.ensures ∙ c.if-is_empty.true))

pub returns-else-is_empty : goal.returns-else-is_empty
returns-else-is_empty c =
    c.first_unmarked-else-is_empty.ensures ∙ sym (least_driver c.args.self.now.threads c.self.inside.drivers.threads c.self.inside.monitors.threads c.self.inside.waiting.threads (houses_seen c.self.inside.drivers c.self.inside.monitors c.self.inside.waiting c.args.self.now c.self.view_is c.self.invariant) (sym c.is_empty.ensures ∙ c.if-is_empty.false))
