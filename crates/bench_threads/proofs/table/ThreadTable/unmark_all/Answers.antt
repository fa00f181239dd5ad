use Rattle.std.proofs.Common.{is_some, false}
use Rattle.bench_threads.specs.Threads.{with_mark}
use Rattle.bench_threads.proofs.Lengths.{ready_all}
use Rattle.bench_threads.proofs.table.ThreadTable.unmark_all.Goals as goal

pub invariant_of-self : goal.invariant_of-self
invariant_of-self c = ready_all (with_mark false) (is_some c.self.inside.spare) c.self.inside.queues c.unmark_all.new.self c.self.invariant c.unmark_all.ensures.threads c.unmark_all.ensures.room
