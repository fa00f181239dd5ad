use Rattle.std.proofs.Common.{sym, ◌∙◌}
use Rattle.bench_threads.proofs.Houses.{houses_seen}
use Rattle.bench_threads.proofs.Running.{awaited_is}
use Rattle.bench_threads.proofs.queues.Queues.is_awaited.Goals as goal

pub returns : goal.returns
returns c =
    c.awaits.ensures
    ∙ sym (awaited_is c.args.self.now.threads c.self.inside.waiting.threads c.args.child.now (houses_seen c.self.inside.drivers c.self.inside.monitors c.self.inside.waiting c.args.self.now c.self.view_is c.self.invariant).waiting)
