use Rattle.fir_widths.specs.Raise.{slack, Grows}
use Rattle.fir_widths.proofs.solve.least_widths.Given as goal

abbrev pub invariant-loop-widths : goal.invariant-loop-widths
invariant-loop-widths l = Grows l.signals l.asked l.initial.widths.items l.widths.items

abbrev pub decreases-loop-widths : goal.decreases-loop-widths
decreases-loop-widths l = slack l.widths.items
