use Rattle.fir_check.specs.Instances.{kids_seen}
use Rattle.fir_check.proofs.CycleLoops.{InstsLeft}
use Rattle.fir_check.proofs.cycles.note_cycles_of.Given as goal

abbrev pub invariant-loop-instance : goal.invariant-loop-instance
invariant-loop-instance l = InstsLeft (kids_seen l.kids) l.home l.instance-items l.instance-index l.best l.initial.best
