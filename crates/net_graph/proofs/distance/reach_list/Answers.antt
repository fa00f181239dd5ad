use Rattle.std.proofs.Common.{◌<◌, ◌≤◌, ◌+◌, sym, subst, ℕ, List, take, get_or, arith}
use Rattle.std.proofs.lemmas.Grind.{common_steps}
use Rattle.std.specs.declared.vec.Vec.{Vec}
use Rattle.std.specs.declared.alloc.Global.{Global}
use Rattle.net_graph.specs.Distances.{Spread}
use Rattle.net_graph.proofs.DistanceFacts.{OwnIn, list_reached, list_passed}
use Rattle.net_graph.proofs.distance.reach_list.Goals.{then-x-own+in_ok-reach, else-x-own}
use Rattle.net_graph.proofs.distance.reach_list.Goals as goal

pub loop-x-preserved : goal.loop-x-preserved
loop-x-preserved c =
    let list : List ℕ = c.args.list.now in
    let i : ℕ = c.loop-x.x-index in
    elim c.if-x-own.branch [
      | then-x-own+in_ok-reach w ↦
          let h : get_or list i 0 < c.args.own = w.if-x-own.true in
          record {
            places = grind (arith, common_steps);
            spread =
                subst (λ (n : Vec ℕ Global). Spread (OwnIn c.args.own (take (i + 1) list)) c.args.own c.args.level c.args.distances.now c.args.next.now.items c.if-x-own.distances n.items) (sym w.next-is)
                (subst (λ (d : List ℕ). Spread (OwnIn c.args.own (take (i + 1) list)) c.args.own c.args.level c.args.distances.now c.args.next.now.items d w.reach.new.next.items) (sym w.distances-is)
                (list_reached c.args.own c.args.level list i c.args.distances.now c.args.next.now.items c.loop-x.distances c.loop-x.next.items w.reach.new.distances w.reach.new.next.items
                c.loop-x-test.true h c.loop-x.invariant.spread w.in_ok-reach.ensures.spread));
          }
      | else-x-own w ↦
          let h : c.args.own ≤ get_or list i 0 = w.if-x-own.false in
          record {
            places = grind (arith, common_steps);
            spread =
                subst (λ (n : Vec ℕ Global). Spread (OwnIn c.args.own (take (i + 1) list)) c.args.own c.args.level c.args.distances.now c.args.next.now.items c.if-x-own.distances n.items) (sym w.next-is)
                (subst (λ (d : List ℕ). Spread (OwnIn c.args.own (take (i + 1) list)) c.args.own c.args.level c.args.distances.now c.args.next.now.items d c.loop-x.next.items) (sym w.distances-is)
                (list_passed c.args.own c.args.level list i c.args.distances.now c.args.next.now.items c.loop-x.distances c.loop-x.next.items c.loop-x-test.true h c.loop-x.invariant.spread));
          }
    ]
