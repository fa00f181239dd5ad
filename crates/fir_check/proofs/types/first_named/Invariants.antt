use Rattle.std.proofs.Common.{◌≡◌, ◌-◌, length, drop}
use Rattle.fir_check.specs.Fields.{named_slot}
use Rattle.fir_check.proofs.types.first_named.Given as goal

abbrev pub invariant-loop-k : goal.invariant-loop-k
invariant-loop-k l = named_slot l.name (drop l.k l.fields) ≡ named_slot l.name l.fields

abbrev pub decreases-loop-k : goal.decreases-loop-k
decreases-loop-k l = length l.fields - l.k
