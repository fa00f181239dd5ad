use Rattle.std.proofs.Common.{◌≡◌, ◌-◌, ◌≤◌, length, map, take}
use Rattle.fir_check.specs.Fields.{field_name}
use Rattle.fir_check.proofs.types.in_one_order.Given as goal

abbrev pub invariant-loop-k : goal.invariant-loop-k
invariant-loop-k l = record { same : map field_name (take l.k l.fields) ≡ map field_name (take l.k l.others); long : length l.fields ≡ length l.others; within : l.k ≤ length l.fields }

abbrev pub decreases-loop-k : goal.decreases-loop-k
decreases-loop-k l = length l.fields - l.k
