use Rattle.std.proofs.Common.{◌≡◌, Err, ap, ℕ, arith}
use Rattle.std.proofs.lemmas.Grind.{common_steps}
use Rattle.net_graph.specs.declared.level.GraphFault.TheVariants.{CombLoop}
use Rattle.net_graph.specs.NetGraphs.{numbers, OwnReads}
use Rattle.net_graph.specs.Loops.{IsNamedLoop}
use Rattle.net_design.proofs.Numbered.{numbered}
use Rattle.net_design.proofs.Ways.{named_to, no_loop}
use Rattle.net_design.proofs.Finding.{found_named, none_found}
use Rattle.net_design.proofs.design.order_signals.Goals as goal

pub levels-requires : goal.levels-requires
levels-requires c = numbered c.args.elab.now c.args.net.now c.requires.formed c.requires.net

pub returns-in_err-order-clause-named : goal.returns-in_err-order-clause-named
returns-in_err-order-clause-named c loop e =
    let q : (x : ℕ) × IsNamedLoop (OwnReads c.args.net.now) x (numbers loop)
    = c.in_err-order.ensures.named loop (let k : c.in_err-order.field-0.0 ≡ CombLoop loop = grind (arith, common_steps) in ap (λ g. Err g) k) in
    found_named c.args.elab.now c.requires.formed q.0 (numbers loop) (named_to c.args.elab.now c.args.net.now c.requires.formed c.requires.net q.0 (numbers loop) q.1)

pub returns-in_err-order-clause-least : goal.returns-in_err-order-clause-least
returns-in_err-order-clause-least c loop e =
    let q : (x : ℕ) × IsNamedLoop (OwnReads c.args.net.now) x (numbers loop)
    = c.in_err-order.ensures.named loop (let k : c.in_err-order.field-0.0 ≡ CombLoop loop = grind (arith, common_steps) in ap (λ g. Err g) k) in
    (q.0, named_to c.args.elab.now c.args.net.now c.requires.formed c.requires.net q.0 (numbers loop) q.1)

pub returns-clause-no_loop : goal.returns-clause-no_loop
returns-clause-no_loop c =
    none_found c.args.elab.now (no_loop c.args.elab.now c.args.net.now c.requires.formed c.requires.net c.in_ok-order.ensures.no_loop)
