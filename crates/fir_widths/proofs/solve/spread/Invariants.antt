use Rattle.std.proofs.Common.{◌+◌, ◌*◌, vec_len}
use Rattle.fir_widths.specs.Raise.{slack, Grows}
use Rattle.fir_widths.proofs.solve.spread.Given as goal

abbrev pub invariant-loop-risen : goal.invariant-loop-risen
invariant-loop-risen l = Grows l.signals l.asked l.initial.widths l.widths

abbrev pub decreases-loop-risen : goal.decreases-loop-risen
decreases-loop-risen l = 2 * slack l.widths + vec_len l.stack
