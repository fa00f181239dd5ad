use Rattle.fir_check.proofs.Trails.{spread_next}
use Rattle.fir_check.proofs.ways.visit_all.Goals as goal

pub loop-instance-preserved : goal.loop-instance-preserved
loop-instance-preserved c = spread_next _ c.loop-instance.instance-index _ (c.loop-instance.marks, c.loop-instance.found.items) _ _ c.loop-instance-test.true c.in_ok-visit.ensures.marks c.in_ok-visit.ensures.found c.loop-instance.invariant
