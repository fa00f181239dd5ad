use Rattle.std.proofs.Common.{◌≡◌, ◌<◌, ◌≢◌, suc, subst, ℕ, ◌++◌, ◌∷◌, [], arith}
use Rattle.std.proofs.lemmas.Grind.{common_steps}
use Rattle.net_graph.specs.Graphs.{reads_in}
use Rattle.net_graph.specs.NetGraphs.{ReadsOver}
use Rattle.net_graph.specs.Distances.{distance_of}
use Rattle.net_graph.proofs.SearchFacts.{StepsTo, steps_to, behind_next, nearer_behind, descends_next, descends_last, distance_inside}
use Rattle.net_graph.proofs.search.descend.Goals as goal

pub loop-x-smaller : goal.loop-x-smaller
loop-x-smaller c =
    let E : ℕ → ℕ = distance_of c.args.distances.now c.args.own in
    let n : c.loop-x.x ≢ c.args.target = grind (arith, common_steps) in
    let s : StepsTo (ReadsOver (reads_in c.args.lists.now) c.args.own) E c.loop-x.x c.nearest_read-x.result
    = steps_to c.args.lists.now c.args.own c.loop-x.passed c.args.distances.now c.args.target c.loop-x.x c.nearest_read-x.result c.requires.places c.requires.measures
    c.loop-x.invariant.walk.near n c.loop-x.invariant.passed c.nearest_read-x.ensures.one c.nearest_read-x.ensures.nearest in
    let d : E c.loop-x.x ≡ suc (E c.nearest_read-x.result) = s.nearer in
    below (E c.loop-x.x) (E c.nearest_read-x.result) d
  where
    below : (a b : ℕ) → a ≡ suc b → b < a
    below a b e = omega (arith, e)

pub loop-x-preserved : goal.loop-x-preserved
loop-x-preserved c =
    let E : ℕ → ℕ = distance_of c.args.distances.now c.args.own in
    let n : c.loop-x.x ≢ c.args.target = grind (arith, common_steps) in
    let s : StepsTo (ReadsOver (reads_in c.args.lists.now) c.args.own) E c.loop-x.x c.nearest_read-x.result
    = steps_to c.args.lists.now c.args.own c.loop-x.passed c.args.distances.now c.args.target c.loop-x.x c.nearest_read-x.result c.requires.places c.requires.measures
    c.loop-x.invariant.walk.near n c.loop-x.invariant.passed c.nearest_read-x.ensures.one c.nearest_read-x.ensures.nearest in
    let e : c.push.new.self.items ≡ c.loop-x.path.items ++ c.loop-x.x ∷ [] = grind (arith, common_steps) in
    let d : E c.loop-x.x ≡ suc (E c.nearest_read-x.result) = s.nearer in
    let near : E c.loop-x.x < c.args.own = c.loop-x.invariant.walk.near in
    let b : c.loop-x.x < c.args.own = subst (λ n. c.loop-x.x < n) c.requires.places (distance_inside c.args.distances.now c.args.own c.loop-x.x near) in
    record {
      walk = descends_next (ReadsOver (reads_in c.args.lists.now) c.args.own) E c.args.target c.args.own c.args.from c.loop-x.x c.nearest_read-x.result c.args.path.now.items c.loop-x.path.items
          c.push.new.self.items c.loop-x.invariant.walk s e;
      passed = behind_next c.args.lists.now c.args.own c.loop-x.passed c.nearest_read-x.new.passed c.args.distances.now c.loop-x.x c.nearest_read-x.result c.requires.places b
          (nearer_near (E c.loop-x.x) (E c.nearest_read-x.result) c.args.own d near) (nearer_behind c.args.lists.now c.loop-x.passed E c.loop-x.x c.nearest_read-x.result c.loop-x.invariant.passed d) s.nearest
          c.nearest_read-x.ensures.marks;
    }
  where
    nearer_near : (a b own : ℕ) → a ≡ suc b → a < own → b < own
    nearer_near a b own e h = omega (arith, e, h)

pub returns : goal.returns
returns c =
    let e : c.loop-x.x ≡ c.args.target = grind (arith, common_steps) in
    descends_last (ReadsOver (reads_in c.args.lists.now) c.args.own) (distance_of c.args.distances.now c.args.own) c.args.target c.args.own c.args.from c.loop-x.x c.args.path.now.items c.loop-x.path.items
    c.loop-x.invariant.walk e
