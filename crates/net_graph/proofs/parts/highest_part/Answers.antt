use Rattle.std.proofs.Common.{◌≤◌, arith, get_or}
use Rattle.std.proofs.lemmas.Grind.{common_steps}
use Rattle.net_graph.specs.Parts.{part_of}
use Rattle.net_graph.proofs.PartFacts.{at_most_more}
use Rattle.net_graph.proofs.parts.highest_part.Goals as goal

pub loop-y-preserved : goal.loop-y-preserved
loop-y-preserved c =
    let b : c.loop-y.highest ≤ c.if-highest-part.highest = grind (arith, common_steps) in
    let p : part_of c.args.parts.now (get_or c.args.list.now c.loop-y.y-index 0) ≤ c.if-highest-part.highest = grind (arith, common_steps) in
    at_most_more c.args.parts.now c.args.list.now c.loop-y.y-index c.loop-y.highest c.if-highest-part.highest c.loop-y-test.true c.loop-y.invariant b p
