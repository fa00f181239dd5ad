use Rattle.std.proofs.Common.{◌≡◌, drop}
use Rattle.net_core.specs.WidthRules.{wide_signals, least_line}
use Rattle.fir_widths.specs.Inferring.{lesser_of}
use Rattle.fir_widths.proofs.inference.wide_signal.Given as goal

abbrev pub invariant-loop-k : goal.invariant-loop-k
invariant-loop-k l = lesser_of l.found (least_line (wide_signals (drop l.k l.signals) (drop l.k l.widths))) ≡ least_line (wide_signals l.signals l.widths)
