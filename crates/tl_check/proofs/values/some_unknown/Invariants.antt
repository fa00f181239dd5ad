use Rattle.std.proofs.Common.{◌≡◌, drop}
use Rattle.std.specs.List.{list_any}
use Rattle.tl_check.specs.Values.{uses_unknown}
use Rattle.tl_check.proofs.values.some_unknown.Given as goal

abbrev pub invariant-loop-value : goal.invariant-loop-value
invariant-loop-value l = list_any (uses_unknown l.names.variables) l.values ≡ list_any (uses_unknown l.names.variables) (drop l.value-index l.values)
