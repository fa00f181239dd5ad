use Rattle.std.proofs.Common.{◌≡◌, map, take}
use Rattle.fir_flat.proofs.port_rows.port_rows.Given as goal

abbrev pub invariant-loop-home : goal.invariant-loop-home
invariant-loop-home l = l.rows.items ≡ map (λ m. m.ports) (take l.home-index l.modules)
