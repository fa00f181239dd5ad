use Rattle.std.proofs.Common.{◌+◌, ◌*◌, ◌≤◌, vec_len}
use Rattle.fir_widths.specs.Raise.{slack, Grows}
use Rattle.fir_widths.proofs.solve.raise_all.Given as goal

abbrev pub invariant-loop-number : goal.invariant-loop-number
invariant-loop-number l = record {
  grows : Grows l.signals l.asked l.initial.widths l.widths;
  room : 2 * slack l.widths + vec_len l.stack ≤ 2 * slack l.initial.widths + vec_len l.initial.stack;
}
