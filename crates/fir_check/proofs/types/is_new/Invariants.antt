use Rattle.std.proofs.Common.{◌≡◌, ◌-◌, length, map, drop}
use Rattle.fir_check.specs.Names.{is_among}
use Rattle.fir_check.specs.Fields.{field_name}
use Rattle.fir_check.proofs.types.is_new.Given as goal

abbrev pub invariant-loop-k : goal.invariant-loop-k
invariant-loop-k l = is_among l.name (map field_name (drop l.k l.earlier)) ≡ is_among l.name (map field_name l.earlier)

abbrev pub decreases-loop-k : goal.decreases-loop-k
decreases-loop-k l = length l.earlier - l.k
