use Rattle.std.proofs.Common.{◌≡◌, drop}
use Rattle.std.specs.List.{list_any}
use Rattle.tl_check.specs.Values.{is_too_wide}
use Rattle.tl_check.proofs.values.some_value_too_wide.Given as goal

abbrev pub invariant-loop-value : goal.invariant-loop-value
invariant-loop-value l = list_any (is_too_wide l.port) l.values ≡ list_any (is_too_wide l.port) (drop l.value-index l.values)
