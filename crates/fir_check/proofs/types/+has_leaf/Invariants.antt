use Rattle.std.proofs.Common.{◌≡◌, ◌-◌, length, []}
use Rattle.std.specs.List.{list_any}
use Rattle.fir_check.specs.Fields.{field_name, first_fields, has_wanted}
use Rattle.std.specs.Prelude.{IfSome}
use Rattle.fir_check.specs.Tables.{NamesFields}
use Rattle.fir_check.proofs.Firsts.{from}
use Rattle.fir_check.proofs.types.+has_leaf.Given as goal

abbrev pub invariant-has_leaf_inside-loop-k : goal.invariant-has_leaf_inside-loop-k
invariant-has_leaf_inside-loop-k l = record { found : list_any (has_wanted l.turned l.unsized_only) (from field_name [] l.fields l.k) ≡ list_any (has_wanted l.turned l.unsized_only) (first_fields l.fields); named : IfSome l.table (NamesFields l.fields) }

abbrev pub decreases-has_leaf_inside-loop-k : goal.decreases-has_leaf_inside-loop-k
decreases-has_leaf_inside-loop-k l = length l.fields - l.k
