use Rattle.std.proofs.Common.{take}
use Rattle.fir_flat.specs.Measures.{own_weight}
use Rattle.fir_flat.specs.Homes.{AreHomes}
use Rattle.fir_flat.proofs.homes.part_homes.Given as goal

abbrev pub invariant-loop-home : goal.invariant-loop-home
invariant-loop-home l = AreHomes (own_weight l.modules) l.modules (take l.home-index l.modules) l.homes.items
