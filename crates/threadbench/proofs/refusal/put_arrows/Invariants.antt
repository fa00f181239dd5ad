use Rattle.std.proofs.Common.{◌≡◌, ◌++◌, take, codes}
use Rattle.std.specs.List.{flat_map}
use Rattle.threadbench.proofs.refusal.put_arrows.Given as goal

abbrev pub invariant-loop-name : goal.invariant-loop-name
invariant-loop-name l = l.out.items ≡ l.initial.out.items ++ flat_map (λ n. n ++ codes " > ") (take l.name-index l.names)
