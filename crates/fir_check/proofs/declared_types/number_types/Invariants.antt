use Rattle.std.proofs.Common.{flat_map, take, [], ◌∷◌}
use Rattle.fir_check.specs.Numbers.{Gains}
use Rattle.fir_check.proofs.declared_types.number_types.Given as goal

abbrev pub invariant-loop-ty : goal.invariant-loop-ty
invariant-loop-ty l = Gains l.initial.table l.table (flat_map (λ t. t ∷ []) (take l.ty-index l.types)) [] l.numbers.items
