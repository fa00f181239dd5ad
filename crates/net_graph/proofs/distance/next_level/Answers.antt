use Rattle.std.proofs.Common.{◌∙◌}
use Rattle.net_graph.proofs.DistanceFacts.{front_more}
use Rattle.net_graph.proofs.distance.next_level.Goals as goal

pub loop-z-preserved : goal.loop-z-preserved
loop-z-preserved c = record {
  places = c.reach_row.ensures.places ∙ c.loop-z.invariant.places;
  spread = front_more c.args.readers.now c.args.own c.args.level c.args.front.now c.row.result.now c.loop-z.z-index c.args.distances.now c.args.next.now.items c.loop-z.distances c.loop-z.next.items
      c.reach_row.new.distances c.reach_row.new.next.items c.loop-z-test.true c.row.ensures c.loop-z.invariant.spread c.in_ok-reach_row.ensures.spread;
  entered = c.in_ok-reach_row.ensures.entered;
}
