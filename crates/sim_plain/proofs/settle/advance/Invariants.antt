use Rattle.std.proofs.Common.{◌≡◌, length}
use Rattle.sim_plain.specs.Words.{at}
use Rattle.sim_plain.proofs.Pass.{Edge}
use Rattle.sim_plain.proofs.settle.advance.Given as goal

abbrev pub invariant-loop-x : goal.invariant-loop-x
invariant-loop-x l = Edge l.net (at l.values) l.fn.registers l.x l.registers × (length l.registers ≡ length l.fn.registers)
