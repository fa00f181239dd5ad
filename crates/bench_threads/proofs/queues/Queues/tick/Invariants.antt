use Rattle.std.proofs.Common.{◌≡◌}
use Rattle.bench_threads.proofs.Ticking.{Ticked}
use Rattle.bench_threads.proofs.queues.Queues.tick.Given as goal

abbrev pub invariant-loop-left : goal.invariant-loop-left
invariant-loop-left l = record { ticked : Ticked l.fn.self.threads l.self.threads l.left; room : l.self.room ≡ l.fn.self.room }

abbrev pub decreases-loop-left : goal.decreases-loop-left
decreases-loop-left l = l.left
