use Rattle.fir_flat.specs.Signals.{seen_opening}
use Rattle.fir_flat.specs.Flattening.{Runs, coming, counted_in}
use Rattle.fir_flat.proofs.flattening.lay_out.Given as goal

abbrev pub invariant-loop-entry : goal.invariant-loop-entry
invariant-loop-entry l = Runs l.modules (seen_opening l.fn.opening) l.course

abbrev pub decreases-loop-entry : goal.decreases-loop-entry
decreases-loop-entry l = counted_in l.modules (coming l.course.to_come.items)
