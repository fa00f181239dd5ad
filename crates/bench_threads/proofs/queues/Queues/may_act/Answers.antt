use Rattle.std.proofs.Common.{ap, sym, ◌∙◌}
use Rattle.std.specs.FinMap as map
use Rattle.bench_threads.specs.Shelves.{is_nil}
use Rattle.bench_threads.proofs.Houses.{houses_seen}
use Rattle.bench_threads.proofs.Acting.{may_act_is, acts}
use Rattle.bench_threads.proofs.queues.Queues.may_act.Goals as goal

pub returns-in-Drivers : goal.returns-in-Drivers
unfolding acts
returns-in-Drivers c =
    sym (may_act_is c.args.self.now.threads c.self.inside.drivers.threads c.self.inside.monitors.threads c.self.inside.waiting.threads (houses_seen c.self.inside.drivers c.self.inside.monitors c.self.inside.waiting c.args.self.now c.self.view_is c.self.invariant) c.args.entry.now ∙ ap (acts (is_nil (map.entries c.self.inside.drivers.threads))) (sym c.in-Drivers.ensures))

pub returns-in-Monitors : goal.returns-in-Monitors
unfolding acts
returns-in-Monitors c =
    c.is_empty.ensures
    ∙ sym (may_act_is c.args.self.now.threads c.self.inside.drivers.threads c.self.inside.monitors.threads c.self.inside.waiting.threads (houses_seen c.self.inside.drivers c.self.inside.monitors c.self.inside.waiting c.args.self.now c.self.view_is c.self.invariant) c.args.entry.now ∙ ap (acts (is_nil (map.entries c.self.inside.drivers.threads))) (sym c.in-Monitors.ensures))
