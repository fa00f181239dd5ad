use Rattle.std.proofs.Common.{is_some}
use Rattle.bench_threads.specs.declared.entry.Entry.{Entry}
use Rattle.bench_threads.specs.Threads.{tick_mode}
use Rattle.bench_threads.proofs.Lengths.{ready_all}
use Rattle.bench_threads.proofs.table.ThreadTable.tick.Goals as goal

pub invariant_of-self : goal.invariant_of-self
invariant_of-self c = ready_all (λ (e : Entry). tick_mode c.self.inside.queues.threads e e.mode) (is_some c.self.inside.spare) c.self.inside.queues c.tick.new.self c.self.invariant c.tick.ensures.threads c.tick.ensures.room
