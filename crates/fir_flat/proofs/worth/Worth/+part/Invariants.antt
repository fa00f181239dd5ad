use Rattle.std.proofs.Common.{◌≡◌, ◌+◌, ◌*◌, map, take}
use Rattle.std.specs.List.{range_with_len}
use Rattle.fir_flat.specs.Worths.{ends_of}
use Rattle.fir_flat.proofs.worth.Worth.+part.Given as goal

abbrev pub invariant-loop-number : goal.invariant-loop-number
invariant-loop-number l = l.items.items ≡ map (λ i. (ends_of l.of).part (i * l.size + l.k)) (range_with_len 0 l.number)

abbrev pub invariant-loop-arg : goal.invariant-loop-arg
invariant-loop-arg l = l.operands.items ≡ map (λ a. (ends_of a).part 0) (take l.arg-index l.arg-items)
