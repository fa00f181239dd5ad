use Rattle.std.proofs.Common.{◌<◌, ◌≡◌, true, false, take}
use Rattle.fir_widths.specs.Raise.{slack, Grows, MeetsAll}
use Rattle.fir_widths.proofs.solve.sweep.Given as goal

abbrev pub invariant-loop-number : goal.invariant-loop-number
invariant-loop-number l = record {
  grows : Grows l.signals l.asked l.initial.widths l.widths;
  rose : l.rose ≡ true → slack l.widths < slack l.initial.widths;
  met : l.rose ≡ false → MeetsAll l.signals l.widths (take l.number l.asked);
}
