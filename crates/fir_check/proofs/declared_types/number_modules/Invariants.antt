use Rattle.std.proofs.Common.{flat_map, take, []}
use Rattle.fir_check.specs.Numbers.{Gains, types_in}
use Rattle.fir_check.proofs.declared_types.number_modules.Given as goal

abbrev pub invariant-loop-home : goal.invariant-loop-home
invariant-loop-home l = Gains l.initial.table l.table (flat_map types_in (take l.home-index l.modules)) [] l.numbers.items
