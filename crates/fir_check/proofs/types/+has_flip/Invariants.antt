use Rattle.std.proofs.Common.{◌≡◌, ◌-◌, length, []}
use Rattle.std.specs.List.{list_any}
use Rattle.fir_check.specs.Fields.{field_name, first_fields, flips}
use Rattle.std.specs.Prelude.{IfSome}
use Rattle.fir_check.specs.Tables.{NamesFields}
use Rattle.fir_check.proofs.Firsts.{from}
use Rattle.fir_check.proofs.types.+has_flip.Given as goal

abbrev pub invariant-flips_inside-loop-k : goal.invariant-flips_inside-loop-k
invariant-flips_inside-loop-k l = record { found : list_any flips (from field_name [] l.fields l.k) ≡ list_any flips (first_fields l.fields); named : IfSome l.table (NamesFields l.fields) }

abbrev pub decreases-flips_inside-loop-k : goal.decreases-flips_inside-loop-k
decreases-flips_inside-loop-k l = length l.fields - l.k
