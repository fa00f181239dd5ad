use Rattle.std.proofs.Common.{◌≡◌, ◌-◌, length, drop}
use Rattle.std.specs.List.{list_any}
use Rattle.fir_check.specs.Fields.{field_type}
use Rattle.fir_check.specs.Types.{repeats_field}
use Rattle.fir_check.proofs.types.+repeats_field.Given as goal

abbrev pub invariant-repeats_inside-loop-k : goal.invariant-repeats_inside-loop-k
invariant-repeats_inside-loop-k l = list_any (λ f. repeats_field (field_type f)) (drop l.k l.fields) ≡ list_any (λ f. repeats_field (field_type f)) l.fields

abbrev pub decreases-repeats_inside-loop-k : goal.decreases-repeats_inside-loop-k
decreases-repeats_inside-loop-k l = length l.fields - l.k
