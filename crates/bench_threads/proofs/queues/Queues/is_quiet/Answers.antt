use Rattle.std.proofs.Common.{ap, sym, ◌∙◌, ◌&&◌}
use Rattle.std.specs.FinMap as map
use Rattle.bench_threads.specs.Shelves.{is_nil}
use Rattle.bench_threads.proofs.Houses.{houses_seen}
use Rattle.bench_threads.proofs.Acting.{quiet_is}
use Rattle.bench_threads.proofs.queues.Queues.is_quiet.Goals as goal

pub returns-then-is_empty : goal.returns-then-is_empty
returns-then-is_empty c =
    c.is_empty-then-is_empty.ensures
    ∙ sym (quiet_is c.args.self.now.threads c.self.inside.drivers.threads c.self.inside.monitors.threads c.self.inside.waiting.threads (houses_seen c.self.inside.drivers c.self.inside.monitors c.self.inside.waiting c.args.self.now c.self.view_is c.self.invariant)
    ∙ ap (λ b. b && is_nil (map.entries c.self.inside.monitors.threads)) (sym c.is_empty.ensures ∙ c.if-is_empty.true))

pub returns-else-is_empty : goal.returns-else-is_empty
returns-else-is_empty c =
    c.if-is_empty.false
    ∙ sym (quiet_is c.args.self.now.threads c.self.inside.drivers.threads c.self.inside.monitors.threads c.self.inside.waiting.threads (houses_seen c.self.inside.drivers c.self.inside.monitors c.self.inside.waiting c.args.self.now c.self.view_is c.self.invariant)
    ∙ ap (λ b. b && is_nil (map.entries c.self.inside.monitors.threads)) (sym c.is_empty.ensures ∙ c.if-is_empty.false))
