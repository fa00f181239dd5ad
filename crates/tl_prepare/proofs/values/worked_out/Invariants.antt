use Rattle.std.proofs.Common.{◌≡◌, [], take}
use Rattle.std.specs.Prelude.{reverse}
use Rattle.tl_threads.specs.Machine.{worked}
use Rattle.tl_prepare.proofs.values.worked_out.Given as goal

abbrev pub invariant-loop-item : goal.invariant-loop-item
invariant-loop-item l = reverse l.stack.items ≡ worked l.locals (take l.item-index l.items) []
