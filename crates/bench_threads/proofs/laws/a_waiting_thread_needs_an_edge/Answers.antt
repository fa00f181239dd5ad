use Rattle.bench_threads.proofs.Ahead.{at_least_one}
use Rattle.bench_threads.proofs.laws.a_waiting_thread_needs_an_edge.Goals as goal

pub returns : goal.returns
returns c = λ ts n e. at_least_one ts n e
