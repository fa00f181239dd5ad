use Rattle.std.proofs.Common.{◌≡◌, ◌-◌, length, drop, map}
use Rattle.fir_check.specs.Fields.{repeats_name}
use Rattle.fir_check.proofs.Repeats.{repeats_past}
use Rattle.fir_check.specs.KnownSeen.{key_name}
use Rattle.fir_check.proofs.types.repeats_name.Given as goal

abbrev pub invariant-loop-k : goal.invariant-loop-k
invariant-loop-k l = repeats_past (map key_name l.names.keys) (drop l.k l.fields) ≡ repeats_name l.fields

abbrev pub decreases-loop-k : goal.decreases-loop-k
decreases-loop-k l = length l.fields - l.k
