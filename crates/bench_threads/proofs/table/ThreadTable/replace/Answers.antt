use Rattle.std.proofs.Common.{is_some, ap, ◌∙◌}
use Rattle.std.specs.FinMap as map
use Rattle.bench_threads.specs.declared.entry.Entry.{Entry}
use Rattle.bench_threads.proofs.Lengths.{ready_put}
use Rattle.bench_threads.proofs.table.ThreadTable.replace.Goals as goal

pub invariant_of-self : goal.invariant_of-self
invariant_of-self c =
    let there = ap (λ (e : Entry). is_some (map.get c.self.inside.queues.threads e.state.path)) c.standing.ensures ∙ ap (λ t. is_some (map.get t.threads c.args.state.path)) c.self.view_is ∙ c.requires in
    ready_put (is_some c.self.inside.spare) c.self.inside.queues c.replace.new.self c.standing.result.state.path c.standing.result there c.self.invariant c.replace.ensures.threads c.replace.ensures.room
