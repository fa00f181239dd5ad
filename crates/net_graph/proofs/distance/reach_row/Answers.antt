use Rattle.std.proofs.Common.{◌≤◌, ◌∙◌, subst, ℕ, List, length, arith}
use Rattle.std.proofs.lemmas.List.{take_all}
use Rattle.net_graph.specs.Distances.{Spread}
use Rattle.net_graph.proofs.DistanceFacts.{RowReaches, row_more}
use Rattle.net_graph.proofs.distance.reach_row.Goals as goal

pub loop-x-preserved : goal.loop-x-preserved
loop-x-preserved c = record {
  places = c.reach_over.ensures.places ∙ c.loop-x.invariant.places;
  spread = row_more c.args.readers.now c.args.own c.args.level c.args.row.now c.loop-x.x-index c.args.distances.now c.args.next.now.items c.loop-x.distances c.loop-x.next.items
      c.reach_over.new.distances c.reach_over.new.next.items c.loop-x-test.true c.loop-x.invariant.spread c.in_ok-reach_over.ensures.spread;
  entered = c.in_ok-reach_over.ensures.entered;
}

pub returns-clause-spread : goal.returns-clause-spread
returns-clause-spread c =
    let n : length c.args.row.now ≤ c.loop-x.x-index = omega arith in
    subst (λ (r : List ℕ). Spread (RowReaches c.args.readers.now c.args.own r) c.args.own c.args.level c.args.distances.now c.args.next.now.items c.loop-x.distances c.loop-x.next.items)
    (take_all c.loop-x.x-index c.args.row.now n) c.loop-x.invariant.spread
