use Rattle.std.proofs.Common.{◌-◌, length}
use Rattle.tl_code.proofs.Alike.{SoFar}
use Rattle.tl_code.proofs.same.+same_stmt.Given as goal

abbrev pub invariant-same_stmts-loop-k : goal.invariant-same_stmts-loop-k
invariant-same_stmts-loop-k l = SoFar l.these l.others l.k

abbrev pub decreases-same_stmts-loop-k : goal.decreases-same_stmts-loop-k
decreases-same_stmts-loop-k l = length l.these - l.k
