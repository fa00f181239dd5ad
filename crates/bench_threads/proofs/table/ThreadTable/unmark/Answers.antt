use Rattle.std.proofs.Common.{is_some, false}
use Rattle.bench_threads.specs.Threads.{with_mark}
use Rattle.bench_threads.proofs.Lengths.{ready_changed}
use Rattle.bench_threads.proofs.table.ThreadTable.unmark.Goals as goal

pub invariant_of-self : goal.invariant_of-self
invariant_of-self c = ready_changed (with_mark false) (is_some c.self.inside.spare) c.self.inside.queues c.set_marked.new.self c.args.path.now c.self.invariant c.set_marked.ensures.threads c.set_marked.ensures.room
