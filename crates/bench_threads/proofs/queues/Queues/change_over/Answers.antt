use Rattle.std.proofs.Common.{ap, ◌∙◌}
use Rattle.std.specs.FinMap as map
use Rattle.bench_threads.specs.declared.entry.Entry.{Entry}
use Rattle.bench_threads.proofs.Houses.{get_removed, insert_removed}
use Rattle.bench_threads.proofs.queues.Queues.change_over.Goals as goal

pub insert-requires-clause-absent : goal.insert-requires-clause-absent
insert-requires-clause-absent c =
    ap (λ (e : Entry). map.get c.take.new.self.threads e.state.path) c.set.ensures ∙ ap (λ t. map.get t c.args.entry.state.path) c.take.ensures.threads
    ∙ get_removed c.args.self.now.threads c.args.entry.state.path

pub returns-clause-threads : goal.returns-clause-threads
returns-clause-threads c =
    c.insert.ensures.threads ∙ ap (λ (e : Entry). map.insert c.take.new.self.threads e.state.path e) c.set.ensures
    ∙ ap (λ t. map.insert t c.args.entry.state.path c.args.entry) c.take.ensures.threads
    ∙ insert_removed c.args.self.now.threads c.args.entry.state.path c.args.entry
