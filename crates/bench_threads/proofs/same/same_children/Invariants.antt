use Rattle.std.proofs.Common.{◌-◌, length}
use Rattle.tl_code.proofs.Alike.{SoFar}
use Rattle.bench_threads.proofs.same.same_children.Given as goal

abbrev pub invariant-loop-k : goal.invariant-loop-k
invariant-loop-k l = SoFar l.these l.those l.k

abbrev pub decreases-loop-k : goal.decreases-loop-k
decreases-loop-k l = length l.these - l.k
