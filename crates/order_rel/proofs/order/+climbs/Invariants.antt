use Rattle.std.proofs.Common.{length}
use Rattle.order_rel.proofs.order.+climbs.Given as goal

abbrev pub decreases-climbs : goal.decreases-climbs
decreases-climbs l = length l.path.now
