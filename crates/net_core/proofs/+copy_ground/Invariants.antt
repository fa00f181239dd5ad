use Rattle.std.proofs.Common.{◌≡◌, take}
use Rattle.net_core.proofs.+copy_ground.Given as goal

abbrev pub invariant-copy::copy_body-loop-ground : goal.invariant-copy::copy_body-loop-ground
invariant-copy::copy_body-loop-ground l = l.copies.items ≡ take l.ground-index l.body
