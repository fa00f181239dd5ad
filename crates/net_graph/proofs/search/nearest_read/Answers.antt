use Rattle.std.proofs.Common.{◌≡◌, ◌<◌, ◌≤◌, ◌⊎◌, sym, ap, subst, ℕ, List, [], inl, inr, ⊎_elim, get_or, length, arith}
use Rattle.std.proofs.lemmas.Grind.{common_steps}
use Rattle.net_graph.specs.Distances.{distance_of}
use Rattle.net_graph.specs.Falling.{NearestAmong, EntryReads, ListReads, UnpassedEntry}
use Rattle.net_graph.proofs.HasFacts.{has_at}
use Rattle.net_graph.proofs.SearchFacts.{taken_more, marks_more}
use Rattle.net_graph.proofs.search.nearest_read.Goals as goal

pub loop-y-preserved : goal.loop-y-preserved
loop-y-preserved c =
    let list : List ℕ = get_or c.args.lists.now c.args.x [] in
    let i : ℕ = c.loop-y.y-index in
    let E : ℕ → ℕ = distance_of c.args.distances.now c.args.own in
    let z : ℕ = c.nearest_by-nearest.result in
    let l : c.items-y-items.result.now ≡ list = grind (arith, common_steps) in
    let h : i < length list = subst (λ (q : List ℕ). i < length q) l c.loop-y-test.true in
    let g : get_or c.items-y-items.result.now i 0 ≡ get_or list i 0 = ap (λ (q : List ℕ). get_or q i 0) l in
    record {
      one = ⊎_elim
          (λ e. subst (λ q. (q ≡ c.args.own) ⊎ ListReads c.args.lists.now c.args.own c.args.x q) (sym e) c.loop-y.invariant.one)
          (λ e. inr (get_or list i 0, has_at list i 0 h, subst (λ q. EntryReads c.args.lists.now c.args.own q z) g e))
          c.nearest_by-nearest.ensures.one;
      nearest = taken_more c.args.lists.now c.args.own c.args.passed.now c.loop-y.passed list i E c.args.own c.loop-y.nearest z h c.loop-y.invariant.marks c.loop-y.invariant.nearest
          (subst (λ q. NearestAmong (UnpassedEntry c.args.lists.now c.args.own c.loop-y.passed q) E c.loop-y.nearest z) g c.nearest_by-nearest.ensures.nearest);
      marks = marks_more c.args.own c.args.passed.now c.loop-y.passed c.nearest_by-nearest.new.passed list i h c.loop-y.invariant.marks
          (λ k m. ⊎_elim (λ a. inl a) (λ a. inr (subst (λ q. (k ≡ q) × (c.args.own ≤ q)) g a)) (c.nearest_by-nearest.ensures.marks k m));
    }
