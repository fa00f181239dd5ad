use Rattle.std.proofs.Common.{◌≡◌, ◌∙◌, sym, ap, Err, map, arith, List, ℕ}
use Rattle.std.proofs.lemmas.Grind.{common_steps}
use Rattle.net_core.specs.declared.ports.Signal.{Signal}
use Rattle.net_graph.specs.NetGraphs.{numbers}
use Rattle.design_core.specs.Built.{Looped, name_of}
use Rattle.design_core.proofs.Told.{looped, names_twice}
use Rattle.design_core.proofs.stages.order_of.Goals as goal

pub returns-in_ok-names-in-Err-CombLoop-clause-fault : goal.returns-in_ok-names-in-Err-CombLoop-clause-fault
returns-in_ok-names-in-Err-CombLoop-clause-fault c =
    let n = c.in-Err-CombLoop.ensures.named c.in-Err-CombLoop.signals (ap (λ g. Err g) c.in-Err-CombLoop.field-0-is) in
    let e : c.items.result.now ≡ c.in-Err-CombLoop.signals = grind (arith, common_steps) in
    looped c.args.elab.now (numbers c.in-Err-CombLoop.signals) n
    ∙ ap (λ (ys : List (List ℕ)). Err (Looped ys))
    (sym (names_twice c.args.elab.now c.in-Err-CombLoop.signals)
    ∙ ap (λ (s : List Signal). map (λ x. name_of c.args.elab.now x.0) s) (sym e)
    ∙ sym c.in_ok-names-in-Err-CombLoop.ensures)
