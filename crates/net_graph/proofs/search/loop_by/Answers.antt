use Rattle.std.proofs.Common.{◌≡◌, ◌∙◌, sym, ap, subst, ℕ, List, ◌++◌, ◌∷◌, [], ◌<◌, ◌≤◌, arith}
use Rattle.std.proofs.lemmas.Grind.{common_steps}
use Rattle.net_graph.specs.Graphs.{reads_in}
use Rattle.net_graph.specs.NetGraphs.{ReadsOver}
use Rattle.net_graph.specs.Distances.{distance_of}
use Rattle.net_graph.specs.Loops.{IsNamedLoop}
use Rattle.net_graph.proofs.LoopFacts.{loop_named, no_loop_from}
use Rattle.net_graph.proofs.SearchFacts.{first_nearest, first_far, behind_next, none_behind}
use Rattle.net_graph.proofs.search.loop_by.Goals as goal

pub returns-then-distance_at-own-clause-none : goal.returns-then-distance_at-own-clause-none
returns-then-distance_at-own-clause-none c other l =
    let E : ℕ → ℕ = distance_of c.args.distances.now c.args.own in
    let o : 0 < c.args.own = omega (arith, c.requires.x) in
    let f : c.args.own ≤ E c.nearest_read-first.result = grind (arith, common_steps) in
    no_loop_from (ReadsOver (reads_in c.args.lists.now) c.args.own) c.args.own E c.args.x o c.requires.measures
    (first_far c.args.lists.now c.args.own c.args.passed.now E c.args.x c.nearest_read-first.result c.requires.passed c.nearest_read-first.ensures.nearest f) other l

pub descend-requires-clause-passed : goal.descend-requires-clause-passed
descend-requires-clause-passed c =
    let E : ℕ → ℕ = distance_of c.args.distances.now c.args.own in
    let z : ℕ = c.nearest_read-first.result in
    let f : E z < c.args.own = grind (arith, common_steps) in
    behind_next c.args.lists.now c.args.own c.args.passed.now c.nearest_read-first.new.passed c.args.distances.now c.args.x z c.requires.places c.requires.x f
    (none_behind c.args.lists.now c.args.passed.now E z c.requires.passed)
    (first_nearest c.args.lists.now c.args.own c.args.passed.now c.args.distances.now c.args.x z c.requires.passed c.requires.places c.requires.x c.nearest_read-first.ensures.one
    c.nearest_read-first.ensures.nearest f)
    c.nearest_read-first.ensures.marks

pub returns-clause-some : goal.returns-clause-some
returns-clause-some c =
    let G : ℕ → ℕ → Type 0 = ReadsOver (reads_in c.args.lists.now) c.args.own in
    let E : ℕ → ℕ = distance_of c.args.distances.now c.args.own in
    let z : ℕ = c.nearest_read-first.result in
    let o : 0 < c.args.own = omega (arith, c.requires.x) in
    let f : E z < c.args.own = grind (arith, common_steps) in
    let w = c.in_ok-descend.ensures in
    let p : c.in_ok-path.path.items ≡ c.args.x ∷ [] = grind (arith, common_steps) in
    subst (λ (q : List ℕ). IsNamedLoop G c.args.x q) (sym (w.2 ∙ ap (λ (q : List ℕ). q ++ w.0) p))
    (loop_named G c.args.own E c.args.x z w.0 o c.requires.measures
    (first_nearest c.args.lists.now c.args.own c.args.passed.now c.args.distances.now c.args.x z c.requires.passed c.requires.places c.requires.x c.nearest_read-first.ensures.one
    c.nearest_read-first.ensures.nearest f)
    f w.1 c.requires.first)
