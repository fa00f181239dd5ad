use Rattle.std.proofs.Common.{flat_map, take}
use Rattle.fir_check.specs.Numbers.{Gains, types_of}
use Rattle.fir_check.proofs.declared_types.+number.Given as goal

abbrev pub invariant-number_body-loop-stmt : goal.invariant-number_body-loop-stmt
invariant-number_body-loop-stmt l = Gains l.initial.table l.table (flat_map types_of (take l.stmt-index l.body)) l.initial.numbers.items l.numbers.items
