use Rattle.std.proofs.Common.{◌+◌, ◌-◌, ◌*◌, length}
use Rattle.tl_prepare.proofs.Reaching.{Reaches}
use Rattle.tl_prepare.proofs.execute.execute.Given as goal

abbrev pub invariant-steps : goal.invariant-steps
invariant-steps l = Reaches l.limit l.code l.fn.start l.used l.run l.notes

abbrev pub decreases-steps : goal.decreases-steps
decreases-steps l = (l.limit - l.used) * (length l.code + 1) + (length l.code - l.run.pc)
