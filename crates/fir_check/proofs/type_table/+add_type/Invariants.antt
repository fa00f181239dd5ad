use Rattle.std.proofs.Common.{length, map, take, ◌-◌}
use Rattle.fir_check.specs.Fields.{field_type}
use Rattle.fir_check.specs.Numbers.{Added}
use Rattle.fir_check.proofs.type_table.+add_type.Given as goal

abbrev pub invariant-add_fields-loop-k : goal.invariant-add_fields-loop-k
invariant-add_fields-loop-k l = Added l.initial.table l.table (map field_type (take l.k l.fields)) l.parts.items

abbrev pub decreases-add_fields-loop-k : goal.decreases-add_fields-loop-k
decreases-add_fields-loop-k l = length l.fields - l.k
