use Rattle.std.proofs.Common.{◌≡◌, ◌-◌, length, []}
use Rattle.std.specs.List.{list_all}
use Rattle.fir_check.specs.Fields.{field_name, first_fields, has_match}
use Rattle.std.specs.Prelude.{IfSome}
use Rattle.fir_check.specs.Tables.{NamesFields}
use Rattle.fir_check.proofs.Firsts.{from}
use Rattle.fir_check.proofs.types.+same_shape.Given as goal

abbrev pub invariant-same_by_name-loop-k : goal.invariant-same_by_name-loop-k
invariant-same_by_name-loop-k l = list_all (has_match l.others) (from field_name [] l.fields l.k) ≡ list_all (has_match l.others) (first_fields l.fields)

abbrev pub decreases-same_by_name-loop-k : goal.decreases-same_by_name-loop-k
decreases-same_by_name-loop-k l = length l.fields - l.k

abbrev pub invariant-same_in_order-loop-k : goal.invariant-same_in_order-loop-k
invariant-same_in_order-loop-k l = record { found : list_all (has_match l.others) (from field_name [] l.fields l.k) ≡ list_all (has_match l.others) (first_fields l.fields); named : IfSome l.table (NamesFields l.fields) }

abbrev pub decreases-same_in_order-loop-k : goal.decreases-same_in_order-loop-k
decreases-same_in_order-loop-k l = length l.fields - l.k
