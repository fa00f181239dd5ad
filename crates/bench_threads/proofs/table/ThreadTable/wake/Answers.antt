use Rattle.std.proofs.Common.{is_some}
use Rattle.bench_threads.specs.Threads.{woken}
use Rattle.bench_threads.proofs.Lengths.{ready_changed}
use Rattle.bench_threads.proofs.table.ThreadTable.wake.Goals as goal

pub invariant_of-self : goal.invariant_of-self
invariant_of-self c = ready_changed (woken c.args.child.now) (is_some c.self.inside.spare) c.self.inside.queues c.wake.new.self c.args.parent.now c.self.invariant c.wake.ensures.threads c.wake.ensures.room
