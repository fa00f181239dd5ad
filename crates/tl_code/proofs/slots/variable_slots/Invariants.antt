use Rattle.std.proofs.Common.{◌≡◌, take}
use Rattle.tl_code.specs.Slots.{variable_slots}
use Rattle.tl_code.proofs.slots.variable_slots.Given as goal

abbrev pub invariant-loop-placed : goal.invariant-loop-placed
invariant-loop-placed l = l.most ≡ variable_slots (take l.placed-index l.code)
