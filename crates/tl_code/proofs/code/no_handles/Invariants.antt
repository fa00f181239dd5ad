use Rattle.std.proofs.Common.{◌≡◌, None, replicate}
use Rattle.tl_code.proofs.code.no_handles.Given as goal

abbrev pub invariant-loop-slot : goal.invariant-loop-slot
invariant-loop-slot l = l.handles.items ≡ replicate l.slot None
