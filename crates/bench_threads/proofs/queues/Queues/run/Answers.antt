use Rattle.std.proofs.Common.{ap, ◌∙◌, option_map}
use Rattle.std.specs.FinMap as map
use Rattle.bench_threads.specs.declared.entry.Entry.{Entry}
use Rattle.bench_threads.specs.Threads.{write, running}
use Rattle.bench_threads.proofs.Houses.{get_removed, insert_removed}
use Rattle.bench_threads.proofs.queues.Queues.run.Goals as goal

pub insert-requires-clause-absent : goal.insert-requires-clause-absent
insert-requires-clause-absent c =
    ap (λ (e : Entry). map.get c.take.new.self.threads e.state.path) c.set_mode.ensures ∙ ap (map.get c.take.new.self.threads) c.in-Some.ensures.path
    ∙ ap (λ t. map.get t c.args.path.now) c.take.ensures.threads ∙ get_removed c.args.self.now.threads c.args.path.now

pub returns-in-Some-clause-threads : goal.returns-in-Some-clause-threads
returns-in-Some-clause-threads c =
    c.insert.ensures.threads ∙ ap (λ (e : Entry). map.insert c.take.new.self.threads e.state.path e) c.set_mode.ensures
    ∙ ap (λ p. map.insert c.take.new.self.threads p (running c.in-Some.seat)) c.in-Some.ensures.path
    ∙ ap (λ t. map.insert t c.args.path.now (running c.in-Some.seat)) c.take.ensures.threads
    ∙ insert_removed c.args.self.now.threads c.args.path.now (running c.in-Some.seat)
    ∙ ap (λ o. write c.args.self.now.threads c.args.path.now (option_map running o)) c.in-Some.ensures.found
