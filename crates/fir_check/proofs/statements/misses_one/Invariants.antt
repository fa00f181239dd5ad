use Rattle.std.proofs.Common.{◌≡◌, ◌-◌, length, map, drop}
use Rattle.fir_check.specs.Driven.{misses_one}
use Rattle.fir_check.specs.KnownSeen.{key_name}
use Rattle.fir_check.proofs.statements.misses_one.Given as goal

abbrev pub invariant-loop-k : goal.invariant-loop-k
invariant-loop-k l = misses_one l.sinks l.instance (map key_name (drop l.k l.names)) ≡ misses_one l.sinks l.instance (map key_name l.names)

abbrev pub decreases-loop-k : goal.decreases-loop-k
decreases-loop-k l = length l.names - l.k
