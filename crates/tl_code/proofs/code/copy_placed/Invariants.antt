use Rattle.std.proofs.Common.{◌≡◌, take}
use Rattle.tl_code.proofs.code.copy_placed.Given as goal

abbrev pub invariant-loop-placed : goal.invariant-loop-placed
invariant-loop-placed l = l.copy.items ≡ take l.placed-index l.code
