use Rattle.std.proofs.Common.{◌≡◌, ◌⊎◌, sym, subst, true, inr, ⊎_elim}
use Rattle.net_core.specs.Rules.{has}
use Rattle.net_graph.specs.Distances.{distance_of}
use Rattle.net_graph.proofs.HasFacts.{has_at}
use Rattle.net_graph.proofs.SearchFacts.{list_more}
use Rattle.net_graph.proofs.search.nearest_in.Goals as goal

pub loop-w-preserved : goal.loop-w-preserved
loop-w-preserved c = record {
  one = ⊎_elim
      (λ e. subst (λ q. (q ≡ c.args.first) ⊎ (has c.args.list.now q ≡ true)) (sym e) c.loop-w.invariant.one)
      (λ e. inr (subst (λ q. has c.args.list.now q ≡ true) (sym e) (has_at c.args.list.now c.loop-w.w-index 0 c.loop-w-test.true)))
      c.nearer-nearest.ensures.one;
  nearest = list_more c.args.list.now c.loop-w.w-index (distance_of c.args.distances.now c.args.own) c.args.first c.loop-w.nearest c.nearer-nearest.result
      c.loop-w-test.true c.loop-w.invariant.nearest c.nearer-nearest.ensures.nearer;
}
