use Rattle.std.proofs.Common.{length, drop, ◌-◌, ◌≡◌}
use Rattle.std.specs.Prelude.{bytes_eq}
use Rattle.std.specs.List.{position_from}
use Rattle.fir_check.specs.Fields.{field_name}
use Rattle.fir_check.proofs.type_table.first_place.Given as goal

abbrev pub invariant-loop-k : goal.invariant-loop-k
invariant-loop-k l = position_from (λ f. bytes_eq (field_name f) l.name) l.k (drop l.k l.fields) ≡ position_from (λ f. bytes_eq (field_name f) l.name) 0 l.fields

abbrev pub decreases-loop-k : goal.decreases-loop-k
decreases-loop-k l = length l.fields - l.k
