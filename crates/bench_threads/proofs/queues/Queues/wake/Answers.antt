use Rattle.std.proofs.Common.{sym, ◌∙◌}
use Rattle.bench_threads.proofs.Ticking.{not_woken}
use Rattle.bench_threads.proofs.queues.Queues.wake.Goals as goal

pub returns-else-waits_for-clause-threads : goal.returns-else-waits_for-clause-threads
returns-else-waits_for-clause-threads c = not_woken c.args.self.now.threads c.args.path.now c.args.child.now (sym c.waits_for.ensures ∙ c.if-waits_for.false)
