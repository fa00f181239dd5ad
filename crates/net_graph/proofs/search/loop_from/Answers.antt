use Rattle.std.proofs.Common.{◌≡◌, sym, subst, ℕ, List, Bool, true, false, length, replicate, arith}
use Rattle.std.proofs.lemmas.Grind.{common_steps}
use Rattle.net_graph.specs.Graphs.{reads_in}
use Rattle.net_graph.specs.Marks.{is_marked}
use Rattle.net_graph.specs.NetGraphs.{ReadsOver}
use Rattle.net_graph.specs.Distances.{distance_of, Measures}
use Rattle.net_graph.proofs.MarkFacts.{no_mark}
use Rattle.net_graph.proofs.SearchFacts.{measures_over}
use Rattle.net_graph.proofs.search.loop_from.Goals as goal

pub loop_by-requires-clause-measures : goal.loop_by-requires-clause-measures
loop_by-requires-clause-measures c =
    let d : c.deref.result.now ≡ c.in_ok-distances.distances.items = grind (arith, common_steps) in
    subst (λ (q : List ℕ). Measures (ReadsOver (reads_in c.args.lists.now) c.args.own) c.args.x c.args.own (distance_of q c.args.own)) (sym d)
    (measures_over c.args.lists.now c.args.readers.now c.args.x c.args.own c.in_ok-distances.distances.items c.requires.turned c.requires.own c.in_ok-distances.ensures.places
    c.in_ok-distances.ensures.measures)

pub loop_by-requires-clause-passed : goal.loop_by-requires-clause-passed
loop_by-requires-clause-passed c k m =
    let d : c.deref_mut.result.now ≡ replicate (length c.args.lists.now) false = grind (arith, common_steps) in
    no_mark (length c.args.lists.now) k (subst (λ (q : List Bool). is_marked q k ≡ true) d m)
