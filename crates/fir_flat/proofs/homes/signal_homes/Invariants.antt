use Rattle.std.proofs.Common.{take}
use Rattle.fir_flat.specs.Modules.{own_signals}
use Rattle.fir_flat.specs.Homes.{AreHomes}
use Rattle.fir_flat.proofs.homes.signal_homes.Given as goal

abbrev pub invariant-loop-home : goal.invariant-loop-home
invariant-loop-home l = AreHomes (own_signals l.modules) l.modules (take l.home-index l.modules) l.homes.items
