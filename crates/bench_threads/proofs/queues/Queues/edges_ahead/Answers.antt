use Rattle.std.proofs.Common.{ap, ◌∙◌, ◌-◌, arith}
use Rattle.bench_threads.specs.Threads.{sooner}
use Rattle.bench_threads.proofs.Houses.{houses_seen}
use Rattle.bench_threads.proofs.Soonest.{soon_start, soon_less, soon_done}
use Rattle.bench_threads.proofs.Ticking.{within_waiting}
use Rattle.bench_threads.proofs.queues.Queues.edges_ahead.Goals as goal

pub loop-index-init : goal.loop-index-init
loop-index-init c =
    soon_start c.args.self.now.threads c.self.inside.waiting.threads c.len-index.result (houses_seen c.self.inside.drivers c.self.inside.monitors c.self.inside.waiting c.args.self.now c.self.view_is c.self.invariant).waiting c.len-index.ensures.values

pub at-requires : goal.at-requires
at-requires c =
    let within = c.loop-index.invariant.within in
    within_waiting c.self.inside.drivers c.self.inside.monitors c.self.inside.waiting c.args.self.now c.self.view_is c.self.invariant (c.loop-index.index - 1) (omega arith)

pub loop-index-preserved : goal.loop-index-preserved
loop-index-preserved c =
    soon_less c.args.self.now.threads c.self.inside.waiting.threads c.loop-index.index c.loop-index.first c.sooner-first.result c.at.result.now
    (houses_seen c.self.inside.drivers c.self.inside.monitors c.self.inside.waiting c.args.self.now c.self.view_is c.self.invariant).waiting (omega arith) c.loop-index.invariant c.at.ensures.item
    (c.sooner-first.ensures ∙ ap (λ o. sooner o c.loop-index.first) c.edges_of.ensures)

pub returns : goal.returns
returns c = soon_done c.args.self.now.threads c.loop-index.index c.loop-index.first (omega arith) c.loop-index.invariant
