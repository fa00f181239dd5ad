use Rattle.std.proofs.Common.{◌≡◌, ℕ, ◌<◌, true, false, arith, length, subst, sym, ◌++◌, ◌∷◌, [], slice_set, suc}
use Rattle.std.proofs.lemmas.Grind.{common_steps}
use Rattle.net_core.specs.Rules.{has}
use Rattle.net_graph.specs.Graphs.{reads_in}
use Rattle.net_graph.specs.Taking.{is_taken, Taken, left}
use Rattle.net_graph.proofs.OrderFacts.{taken_one, left_set}
use Rattle.net_graph.proofs.order.take_ready.Goals as goal

pub returns-clause-taken : goal.returns-clause-taken
returns-clause-taken c =
    let f : is_taken c.args.taken.now c.args.x ≡ false = grind (arith, common_steps) in
    let e : c.push.new.self.items ≡ c.args.order.now.items ++ c.args.x ∷ [] = grind (arith, common_steps) in
    let b : (y : ℕ) → reads_in c.args.lists.now c.args.x y ≡ true → is_taken c.args.taken.now y ≡ true = λ y r.
    let k : has c.items.result.now y ≡ true = grind (arith, common_steps) in
    let a : c.all_taken.result ≡ true = grind (arith, common_steps) in
    c.all_taken.ensures.yes a y k in
    subst (λ o. Taken c.args.lists.now o (slice_set c.args.taken.now c.args.x true)) (sym e)
    (taken_one c.args.lists.now c.args.order.now.items c.args.taken.now c.args.x c.requires.place c.requires.taken f b)

pub returns-clause-fewer : goal.returns-clause-fewer
returns-clause-fewer c =
    let f : is_taken c.args.taken.now c.args.x ≡ false = grind (arith, common_steps) in
    let p = c.requires.taken.places in
    let q = c.requires.place in
    let h : c.args.x < length c.args.taken.now = omega (arith, p, q) in
    let e : suc (left (slice_set c.args.taken.now c.args.x true)) ≡ left c.args.taken.now = left_set c.args.taken.now c.args.x h f in
    omega (arith, e)

pub returns-clause-took : goal.returns-clause-took
returns-clause-took c _ =
    let f : is_taken c.args.taken.now c.args.x ≡ false = grind (arith, common_steps) in
    let p = c.requires.taken.places in
    let q = c.requires.place in
    let h : c.args.x < length c.args.taken.now = omega (arith, p, q) in
    let e : suc (left (slice_set c.args.taken.now c.args.x true)) ≡ left c.args.taken.now = left_set c.args.taken.now c.args.x h f in
    omega (arith, e)
