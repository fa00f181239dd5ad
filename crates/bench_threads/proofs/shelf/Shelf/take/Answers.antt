use Rattle.std.proofs.Common.{ap, sym, ◌∙◌, get_or}
use Rattle.bench_threads.specs.declared.entry.Entry.{Entry}
use Rattle.bench_threads.proofs.Keyed.{remove_absent}
use Rattle.bench_threads.proofs.Shelved.{found_at, found_none, removed}
use Rattle.bench_threads.proofs.shelf.Shelf.take.Goals as goal

pub invariant_of-self : goal.invariant_of-self
invariant_of-self c = (removed c.self.inside.seats.items c.deref.result.now c.args.self.now.threads c.deref.ensures.value c.self.invariant (ap (λ s. s.threads) c.self.view_is)
    c.args.path.now c.in-Ok.at c.remove.new.self.items c.in-Ok.ensures.found c.remove.ensures.items).sorted

pub returns-in-Ok-clause-threads : goal.returns-in-Ok-clause-threads
returns-in-Ok-clause-threads c = (removed c.self.inside.seats.items c.deref.result.now c.args.self.now.threads c.deref.ensures.value c.self.invariant (ap (λ s. s.threads) c.self.view_is)
    c.args.path.now c.in-Ok.at c.remove.new.self.items c.in-Ok.ensures.found c.remove.ensures.items).is

pub returns-in-Ok-clause-found : goal.returns-in-Ok-clause-found
returns-in-Ok-clause-found c =
    found_at c.self.inside.seats.items c.deref.result.now c.args.self.now.threads c.deref.ensures.value c.self.invariant (ap (λ s. s.threads) c.self.view_is)
    c.args.path.now c.in-Ok.at c.remove.result c.in-Ok.ensures.found c.remove.ensures.value

pub returns-in-Err-clause-found : goal.returns-in-Err-clause-found
returns-in-Err-clause-found c =
    found_none c.self.inside.seats.items c.deref.result.now c.args.self.now.threads c.deref.ensures.value c.self.invariant (ap (λ s. s.threads) c.self.view_is)
    c.args.path.now _ c.in-Err.ensures.absent

pub returns-in-Err-clause-threads : goal.returns-in-Err-clause-threads
returns-in-Err-clause-threads c = sym (remove_absent c.args.self.now.threads c.args.path.now (sym (
    found_none c.self.inside.seats.items c.deref.result.now c.args.self.now.threads c.deref.ensures.value c.self.invariant (ap (λ s. s.threads) c.self.view_is)
    c.args.path.now _ c.in-Err.ensures.absent)))

pub returns-in-Ok-clause-path : goal.returns-in-Ok-clause-path
returns-in-Ok-clause-path c =
    ap (λ (e : Entry). e.state.path) c.remove.ensures.value ∙ ap (λ l. (get_or l c.in-Ok.at c.remove.result).state.path) (sym c.deref.ensures.value) ∙ c.in-Ok.ensures.found.here c.remove.result
