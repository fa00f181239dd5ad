use Rattle.std.proofs.Common.{◌≡◌, take}
use Rattle.tl_code.specs.Slots.{handle_slots}
use Rattle.tl_code.proofs.slots.handle_slots.Given as goal

abbrev pub invariant-loop-placed : goal.invariant-loop-placed
invariant-loop-placed l = l.most ≡ handle_slots (take l.placed-index l.code)
