use Rattle.std.proofs.Common.{◌<◌, ◌≤◌, subst, arith, ⊎_elim}
use Rattle.std.proofs.lemmas.Grind.{common_steps}
use Rattle.std.proofs.lemmas.Bool.{cases_eq}
use Rattle.net_graph.specs.Graphs.{reads_in}
use Rattle.net_graph.specs.Loops.{IsLoopFrom}
use Rattle.net_graph.specs.NetGraphs.{ReadsOver}
use Rattle.net_graph.proofs.SearchFacts.{no_loop_over, begins_below}
use Rattle.net_graph.proofs.search.least_loop.Goals as goal

pub loop-x-preserved-then-falls_at : goal.loop-x-preserved-then-falls_at
loop-x-preserved-then-falls_at c y other l h = ⊎_elim
    (λ e. no_loop_over c.args.lists.now c.args.own c.loop-x.x (c.falls_at.ensures c.if-falls_at.true) other (subst (λ q. IsLoopFrom (ReadsOver (reads_in c.args.lists.now) c.args.own) q other) e l))
    (λ n. c.loop-x.invariant y other l (omega (arith, h, n)))
    (cases_eq y c.loop-x.x)

pub returns-clause-none : goal.returns-clause-none
returns-clause-none c x other l =
    let n : c.args.own ≤ c.loop-x.x = grind (arith, common_steps) in
    let b : x < c.args.own = begins_below c.args.lists.now c.args.own x other l in
    c.loop-x.invariant x other l (omega (arith, n, b))
