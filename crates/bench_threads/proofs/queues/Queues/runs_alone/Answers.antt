use Rattle.std.proofs.Common.{ap, sym, ◌∙◌, ◌&&◌}
use Rattle.std.specs.FinMap as map
use Rattle.bench_threads.specs.Shelves.{is_nil}
use Rattle.bench_threads.proofs.Houses.{houses_seen}
use Rattle.bench_threads.proofs.Running.{alone_is}
use Rattle.bench_threads.proofs.queues.Queues.runs_alone.Goals as goal

pub returns-then-has_no_other : goal.returns-then-has_no_other
returns-then-has_no_other c =
    c.has_no_other-then-has_no_other.ensures
    ∙ sym (alone_is c.args.self.now.threads c.self.inside.drivers.threads c.self.inside.monitors.threads c.self.inside.waiting.threads c.args.path.now (houses_seen c.self.inside.drivers c.self.inside.monitors c.self.inside.waiting c.args.self.now c.self.view_is c.self.invariant)
    ∙ ap (λ b. b && is_nil (map.entries (map.remove c.self.inside.monitors.threads c.args.path.now))) (sym c.has_no_other.ensures ∙ c.if-has_no_other.true))

pub returns-else-has_no_other : goal.returns-else-has_no_other
returns-else-has_no_other c =
    c.if-has_no_other.false
    ∙ sym (alone_is c.args.self.now.threads c.self.inside.drivers.threads c.self.inside.monitors.threads c.self.inside.waiting.threads c.args.path.now (houses_seen c.self.inside.drivers c.self.inside.monitors c.self.inside.waiting c.args.self.now c.self.view_is c.self.invariant)
    ∙ ap (λ b. b && is_nil (map.entries (map.remove c.self.inside.monitors.threads c.args.path.now))) (sym c.has_no_other.ensures ∙ c.if-has_no_other.false))
