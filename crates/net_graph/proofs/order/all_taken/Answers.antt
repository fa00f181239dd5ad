use Rattle.std.proofs.Common.{◌≡◌, true, false, arith, get_or, subst, sym, ⊎_elim}
use Rattle.std.proofs.lemmas.Grind.{common_steps}
use Rattle.net_graph.specs.Taking.{is_taken}
use Rattle.net_graph.proofs.HasFacts.{has_at, has_take}
use Rattle.net_graph.proofs.order.all_taken.Goals as goal

pub returns-then-not-unwrap_or-clause-no : goal.returns-then-not-unwrap_or-clause-no
returns-then-not-unwrap_or-clause-no c e =
    let l = c.loop-y-test.true in
    let t : is_taken c.args.taken.now (get_or c.args.list.now c.loop-y.y-index 0) ≡ false = grind (arith, common_steps) in
    (get_or c.args.list.now c.loop-y.y-index 0, has_at c.args.list.now c.loop-y.y-index 0 l, t)

pub loop-y-preserved : goal.loop-y-preserved
loop-y-preserved c y h =
    let l = c.loop-y-test.true in
    let t : is_taken c.args.taken.now (get_or c.args.list.now c.loop-y.y-index 0) ≡ true = grind (arith, common_steps) in
    ⊎_elim (λ k. c.loop-y.invariant y k) (λ e. subst (λ z. is_taken c.args.taken.now z ≡ true) (sym e) t) (has_take c.args.list.now c.loop-y.y-index 0 y l h)
