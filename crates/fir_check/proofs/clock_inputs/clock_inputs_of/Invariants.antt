use Rattle.fir_check.specs.Driven.{names_seen}
use Rattle.fir_check.proofs.Clocks.{ClocksLeft}
use Rattle.fir_check.proofs.clock_inputs.clock_inputs_of.Given as goal

abbrev pub invariant-loop-k : goal.invariant-loop-k
invariant-loop-k l = ClocksLeft l.ports l.k l.table (names_seen l.clocks)
