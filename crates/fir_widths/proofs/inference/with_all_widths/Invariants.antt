use Rattle.std.proofs.Common.{◌≡◌}
use Rattle.fir_widths.proofs.Setting.{mixed}
use Rattle.fir_widths.proofs.inference.with_all_widths.Given as goal

abbrev pub invariant-loop-k : goal.invariant-loop-k
invariant-loop-k l = l.signals.items ≡ mixed l.k l.initial.signals.items l.widths
