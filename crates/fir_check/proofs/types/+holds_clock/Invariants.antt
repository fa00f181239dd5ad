use Rattle.std.proofs.Common.{◌≡◌, ◌-◌, length, []}
use Rattle.std.specs.List.{list_any}
use Rattle.fir_check.specs.Fields.{field_name, field_type, first_fields}
use Rattle.fir_check.specs.Types.{holds_clock}
use Rattle.std.specs.Prelude.{IfSome}
use Rattle.fir_check.specs.Tables.{NamesFields}
use Rattle.fir_check.proofs.Firsts.{from}
use Rattle.fir_check.proofs.types.+holds_clock.Given as goal

abbrev pub invariant-clocks_inside-loop-k : goal.invariant-clocks_inside-loop-k
invariant-clocks_inside-loop-k l = record { found : list_any (λ f. holds_clock (field_type f)) (from field_name [] l.fields l.k) ≡ list_any (λ f. holds_clock (field_type f)) (first_fields l.fields); named : IfSome l.table (NamesFields l.fields) }

abbrev pub decreases-clocks_inside-loop-k : goal.decreases-clocks_inside-loop-k
decreases-clocks_inside-loop-k l = length l.fields - l.k
