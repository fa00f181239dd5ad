use Rattle.std.proofs.Common.{◌≡◌, take, map}
use Rattle.fir_widths.specs.Least.{first_width}
use Rattle.fir_widths.proofs.inference.start_widths.Given as goal

abbrev pub invariant-loop-signal : goal.invariant-loop-signal
invariant-loop-signal l = l.widths.items ≡ map first_width (take l.signal-index l.signals)
