use Rattle.bench_threads.proofs.Soonest.{SoonFrom}
use Rattle.bench_threads.proofs.queues.Queues.edges_ahead.Given as goal

abbrev pub invariant-loop-index : goal.invariant-loop-index
invariant-loop-index l = SoonFrom l.self.threads l.index l.first

abbrev pub decreases-loop-index : goal.decreases-loop-index
decreases-loop-index l = l.index
