use Rattle.std.proofs.Common.{◌≡◌, [], false, arith, length, subst, sym, replicate}
use Rattle.std.proofs.lemmas.Grind.{common_steps}
use Rattle.net_graph.specs.Taking.{Taken}
use Rattle.net_graph.proofs.OrderFacts.{nothing_taken}
use Rattle.net_graph.proofs.order.no_marks.Goals as goal

pub returns : goal.returns
returns c =
    let e : c.in_ok-marks.marks.items ≡ replicate (length c.args.lists.now) false = grind (arith, common_steps) in
    subst (λ v. Taken c.args.lists.now [] v) (sym e) (nothing_taken c.args.lists.now)
