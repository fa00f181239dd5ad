use Rattle.std.proofs.Common.{◌≡◌, ap, sym, subst, ◌∙◌, get_or}
use Rattle.bench_threads.specs.declared.entry.Entry.{Entry}
use Rattle.bench_threads.proofs.Shelved.{found_at, found_none}
use Rattle.bench_threads.proofs.shelf.Shelf.find.Goals as goal

pub returns-in-Ok-clause-found : goal.returns-in-Ok-clause-found
returns-in-Ok-clause-found c =
    found_at c.self.inside.seats.items c.deref.result.now c.args.self.now.threads c.deref.ensures.value c.self.invariant (ap (λ s. s.threads) c.self.view_is)
    c.args.path.now c.in-Ok.at c.entry.result.now c.in-Ok.ensures.found (subst (λ (x : Entry). x ≡ get_or c.self.inside.seats.items c.in-Ok.at x) (sym c.entry.ensures) c.index.ensures)

pub returns-in-Err-clause-found : goal.returns-in-Err-clause-found
returns-in-Err-clause-found c =
    found_none c.self.inside.seats.items c.deref.result.now c.args.self.now.threads c.deref.ensures.value c.self.invariant (ap (λ s. s.threads) c.self.view_is)
    c.args.path.now _ c.in-Err.ensures.absent

pub returns-in-Ok-clause-path : goal.returns-in-Ok-clause-path
returns-in-Ok-clause-path c =
    ap (λ (e : Entry). e.state.path) (c.entry.ensures ∙ c.index.ensures) ∙ ap (λ l. (get_or l c.in-Ok.at c.index.result.now).state.path) (sym c.deref.ensures.value) ∙ c.in-Ok.ensures.found.here c.index.result.now
