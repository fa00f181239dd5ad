use Rattle.std.proofs.Common.{is_some}
use Rattle.bench_threads.proofs.Lengths.{ready_removed}
use Rattle.bench_threads.proofs.table.ThreadTable.remove.Goals as goal

pub invariant_of-self : goal.invariant_of-self
invariant_of-self c = ready_removed (is_some c.self.inside.spare) c.self.inside.queues c.take-ended.new.self c.args.path.now c.self.invariant c.take-ended.ensures.threads c.take-ended.ensures.room
