use Rattle.std.proofs.Common.{drop}
use Rattle.sim_plain.specs.Ready.{numbers}
use Rattle.sim_plain.proofs.Pass.{Pass}
use Rattle.sim_plain.proofs.settle.settle.Given as goal

abbrev pub invariant-loop-signal : goal.invariant-loop-signal
invariant-loop-signal l = Pass l.net l.inputs l.registers (numbers (drop l.signal-index l.order)) l.values
