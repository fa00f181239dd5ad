use Rattle.std.proofs.Common.{length, ◌-◌, take}
use Rattle.fir_check.specs.KnownSeen.{seen}
use Rattle.fir_check.specs.Walking.{ArgsTold}
use Rattle.fir_check.proofs.statements.tell_args.Given as goal

abbrev pub invariant-loop-k : goal.invariant-loop-k
invariant-loop-k l = ArgsTold l.fn.kind (seen l.around.types.now l.scope) (take l.k l.args) l.told

abbrev pub decreases-loop-k : goal.decreases-loop-k
decreases-loop-k l = length l.args - l.k
