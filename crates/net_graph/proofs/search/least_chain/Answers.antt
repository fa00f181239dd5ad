use Rattle.std.proofs.Common.{◌≡◌, ◌∙◌, sym, ap, subst, ℕ, List, ◌++◌, ◌∷◌, [], ◌<◌, ◌≤◌, length, arith}
use Rattle.std.proofs.lemmas.Grind.{common_steps}
use Rattle.std.specs.declared.vec.Vec.{Vec}
use Rattle.std.specs.declared.alloc.Global.{Global}
use Rattle.net_graph.specs.Graphs.{reads_in}
use Rattle.net_graph.specs.NetGraphs.{ReadsOver}
use Rattle.net_graph.specs.Readers.{Turned}
use Rattle.net_graph.specs.Distances.{distance_of, RowReads, Measures}
use Rattle.net_graph.specs.Loops.{IsNamedChain}
use Rattle.net_graph.proofs.LoopFacts.{at_least, chain_named}
use Rattle.net_graph.proofs.SearchFacts.{measures_over}
use Rattle.net_graph.proofs.search.least_chain.Goals as goal

measured : (lists : List (List ℕ)) (rows given : List (Vec ℕ Global)) (target own : ℕ) (D read : List ℕ) → given ≡ rows → read ≡ D → Turned lists rows → own ≤ length lists → length D ≡ own
    → Measures (RowReads given own) target own (distance_of D own) → Measures (ReadsOver (reads_in lists) own) target own (distance_of read own)
measured lists rows given target own D read r d t o l m = subst (λ (q : List ℕ). Measures (ReadsOver (reads_in lists) own) target own (distance_of q own)) (sym d)
    (measures_over lists given target own D (subst (λ (q : List (Vec ℕ Global)). Turned lists q) (sym r) t) o l m)

some : (a b : ℕ) → a < b → 0 < b
some a b h = omega (arith, h)

pub descend-requires-clause-measures : goal.descend-requires-clause-measures
descend-requires-clause-measures c =
    let r : c.deref.result.now ≡ c.in_ok-readers.readers.items = grind (arith, common_steps) in
    let d : c.deref-2.result.now ≡ c.in_ok-distances.distances.items = grind (arith, common_steps) in
    measured c.args.lists.now c.in_ok-readers.readers.items c.deref.result.now c.args.to c.args.own c.in_ok-distances.distances.items c.deref-2.result.now r d c.in_ok-readers.ensures c.requires.own
    c.in_ok-distances.ensures.places c.in_ok-distances.ensures.measures

pub descend-requires-clause-near : goal.descend-requires-clause-near
descend-requires-clause-near c =
    let r : c.deref.result.now ≡ c.in_ok-readers.readers.items = grind (arith, common_steps) in
    let d : c.deref-2.result.now ≡ c.in_ok-distances.distances.items = grind (arith, common_steps) in
    let E : ℕ → ℕ = distance_of c.deref-2.result.now c.args.own in
    let m : Measures (ReadsOver (reads_in c.args.lists.now) c.args.own) c.args.to c.args.own E
    = measured c.args.lists.now c.in_ok-readers.readers.items c.deref.result.now c.args.to c.args.own c.in_ok-distances.distances.items c.deref-2.result.now r d c.in_ok-readers.ensures c.requires.own
    c.in_ok-distances.ensures.places c.in_ok-distances.ensures.measures in
    (at_least (ReadsOver (reads_in c.args.lists.now) c.args.own) c.args.to c.args.own E (some c.args.to c.args.own c.requires.to) m c.args.from c.requires.leads.0 c.requires.leads.1).0

pub returns : goal.returns
returns c =
    let G : ℕ → ℕ → Type 0 = ReadsOver (reads_in c.args.lists.now) c.args.own in
    let r : c.deref.result.now ≡ c.in_ok-readers.readers.items = grind (arith, common_steps) in
    let d : c.deref-2.result.now ≡ c.in_ok-distances.distances.items = grind (arith, common_steps) in
    let E : ℕ → ℕ = distance_of c.deref-2.result.now c.args.own in
    let o : 0 < c.args.own = some c.args.to c.args.own c.requires.to in
    let m : Measures G c.args.to c.args.own E
    = measured c.args.lists.now c.in_ok-readers.readers.items c.deref.result.now c.args.to c.args.own c.in_ok-distances.distances.items c.deref-2.result.now r d c.in_ok-readers.ensures c.requires.own
    c.in_ok-distances.ensures.places c.in_ok-distances.ensures.measures in
    let near : E c.args.from < c.args.own = (at_least G c.args.to c.args.own E o m c.args.from c.requires.leads.0 c.requires.leads.1).0 in
    let w = c.in_ok-descend.ensures in
    let p : c.push.new.self.items ≡ c.descend.new.path.items ++ c.args.to ∷ [] = grind (arith, common_steps) in
    let q : c.descend.new.path.items ≡ w.0 = w.2 ∙ ap (λ (l : List ℕ). l ++ w.0) c.new-path.ensures.items in
    subst (λ (l : List ℕ). IsNamedChain G c.args.from c.args.to l) (sym (p ∙ ap (λ (l : List ℕ). l ++ c.args.to ∷ []) q)) (chain_named G c.args.to c.args.own E c.args.from w.0 o m near w.1)
