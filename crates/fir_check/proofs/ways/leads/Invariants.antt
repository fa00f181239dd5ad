use Rattle.std.proofs.Common.{◌-◌, length}
use Rattle.fir_check.specs.Instances.{kids_seen}
use Rattle.fir_check.proofs.Trails.{Search}
use Rattle.fir_check.proofs.ways.leads.Given as goal

abbrev pub invariant-loop-next : goal.invariant-loop-next
invariant-loop-next l = Search (kids_seen l.kids) l.from l.to (l.marks.items, l.found.items) l.next

abbrev pub decreases-loop-next : goal.decreases-loop-next
decreases-loop-next l = length l.kids - l.next
