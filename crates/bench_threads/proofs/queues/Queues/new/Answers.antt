use Rattle.bench_threads.proofs.Houses.{nothing_shared}
use Rattle.bench_threads.proofs.queues.Queues.new.Goals as goal

pub invariant_of-result : goal.invariant_of-result
invariant_of-result c = (nothing_shared c.new.result c.new-2.result c.new-3.result c.new.ensures c.new-2.ensures c.new-3.ensures).0

pub returns : goal.returns
returns c = (nothing_shared c.new.result c.new-2.result c.new-3.result c.new.ensures c.new-2.ensures c.new-3.ensures).1
