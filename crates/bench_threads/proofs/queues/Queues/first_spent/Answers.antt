use Rattle.std.proofs.Common.{sym, ◌∙◌}
use Rattle.bench_threads.proofs.Houses.{houses_seen}
use Rattle.bench_threads.proofs.Spending.{spent_here, spent_else}
use Rattle.bench_threads.proofs.queues.Queues.first_spent.Goals as goal

pub returns-in-Some : goal.returns-in-Some
returns-in-Some c = sym (spent_here c.args.self.now.threads c.self.inside.drivers.threads c.self.inside.monitors.threads c.self.inside.waiting.threads (houses_seen c.self.inside.drivers c.self.inside.monitors c.self.inside.waiting c.args.self.now c.self.view_is c.self.invariant) _ (sym c.in-Some.ensures))

pub returns : goal.returns
returns c = c.first_spent-2.ensures ∙ sym (spent_else c.args.self.now.threads c.self.inside.drivers.threads c.self.inside.monitors.threads c.self.inside.waiting.threads (houses_seen c.self.inside.drivers c.self.inside.monitors c.self.inside.waiting c.args.self.now c.self.view_is c.self.invariant) (sym (c.in_default.ensures)))
