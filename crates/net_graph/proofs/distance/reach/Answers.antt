use Rattle.std.proofs.Common.{◌≡◌, sym, subst, ℕ, List, ◌++◌, ◌∷◌, [], arith, slice_set}
use Rattle.std.proofs.lemmas.Grind.{common_steps}
use Rattle.net_graph.specs.Distances.{distance_of, Spread}
use Rattle.net_graph.proofs.DistanceFacts.{reach_new}
use Rattle.net_graph.proofs.distance.reach.Goals as goal

pub returns-in_ok-push-clause-spread : goal.returns-in_ok-push-clause-spread
returns-in_ok-push-clause-spread c =
    let e : c.push.new.self.items ≡ c.args.next.now.items ++ c.args.x ∷ [] = grind (arith, common_steps) in
    let f : distance_of c.args.distances.now c.args.own c.args.x ≡ c.args.own = grind (arith, common_steps) in
    subst (λ (n : List ℕ). Spread (λ k. k ≡ c.args.x) c.args.own c.args.level c.args.distances.now c.args.next.now.items (slice_set c.args.distances.now c.args.x c.args.level) n) (sym e)
    (reach_new c.args.own c.args.level c.args.x c.args.distances.now c.args.next.now.items c.requires.place f c.requires.room c.requires.bounded)
