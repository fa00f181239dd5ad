use Rattle.bench_orders.proofs.Turning.{GoesThrough, acts_left}
use Rattle.bench_orders.proofs.run.run_first.Given as goal

abbrev pub invariant-turns : goal.invariant-turns
invariant-turns l = GoesThrough l.design l.code l.fn.limits l.bench

abbrev pub decreases-turns : goal.decreases-turns
decreases-turns l = acts_left l.bench
