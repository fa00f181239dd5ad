use Rattle.std.proofs.Common.{◌≡◌, ◌-◌, length, drop}
use Rattle.std.specs.List.{list_all}
use Rattle.fir_check.specs.Fields.{has_name_in}
use Rattle.fir_check.proofs.types.names_of_all.Given as goal

abbrev pub invariant-loop-k : goal.invariant-loop-k
invariant-loop-k l = list_all (has_name_in l.fields) (drop l.k l.others) ≡ list_all (has_name_in l.fields) l.others

abbrev pub decreases-loop-k : goal.decreases-loop-k
decreases-loop-k l = length l.others - l.k
