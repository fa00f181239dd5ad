use Rattle.std.proofs.Common.{ap, refl, sym, ◌∙◌, set, Some, None, is_some, cond}
use Rattle.std.specs.FinMap as map
use Rattle.bench_threads.proofs.Shelved.{found_in, found_none, replaced}
use Rattle.bench_threads.proofs.shelf.Shelf.replace.Goals as goal

pub invariant_of-self : goal.invariant_of-self
invariant_of-self c = (replaced c.self.inside.seats.items c.deref.result.now c.args.self.now.threads c.deref.ensures.value c.self.invariant (ap (λ s. s.threads) c.self.view_is)
    c.args.entry.state.path c.args.entry c.in-Ok.at (set c.self.inside.seats.items c.in-Ok.at c.set.new.self) refl c.in-Ok.ensures.found (ap (set c.self.inside.seats.items c.in-Ok.at) c.set.ensures)).sorted

pub returns-in-Ok-clause-back : goal.returns-in-Ok-clause-back
returns-in-Ok-clause-back c =
    sym (ap (λ o. cond (is_some o) None (Some c.args.entry)) (sym (found_in c.self.inside.seats.items c.deref.result.now c.args.self.now.threads c.deref.ensures.value c.self.invariant (ap (λ s. s.threads) c.self.view_is)
    c.args.entry.state.path c.in-Ok.at c.args.entry c.in-Ok.ensures.found)))

pub returns-in-Ok-clause-threads : goal.returns-in-Ok-clause-threads
returns-in-Ok-clause-threads c =
    (replaced c.self.inside.seats.items c.deref.result.now c.args.self.now.threads c.deref.ensures.value c.self.invariant (ap (λ s. s.threads) c.self.view_is)
    c.args.entry.state.path c.args.entry c.in-Ok.at (set c.self.inside.seats.items c.in-Ok.at c.set.new.self) refl c.in-Ok.ensures.found (ap (set c.self.inside.seats.items c.in-Ok.at) c.set.ensures)).is
    ∙ sym (ap (λ o. cond (is_some o) (map.insert c.args.self.now.threads c.args.entry.state.path c.args.entry) c.args.self.now.threads) (sym (found_in c.self.inside.seats.items c.deref.result.now c.args.self.now.threads c.deref.ensures.value c.self.invariant (ap (λ s. s.threads) c.self.view_is)
    c.args.entry.state.path c.in-Ok.at c.args.entry c.in-Ok.ensures.found)))

pub returns-in-Err-clause-back : goal.returns-in-Err-clause-back
returns-in-Err-clause-back c =
    sym (ap (λ o. cond (is_some o) None (Some c.args.entry)) (sym (found_none c.self.inside.seats.items c.deref.result.now c.args.self.now.threads c.deref.ensures.value c.self.invariant (ap (λ s. s.threads) c.self.view_is)
    c.args.entry.state.path _ c.in-Err.ensures.absent)))

pub returns-in-Err-clause-threads : goal.returns-in-Err-clause-threads
returns-in-Err-clause-threads c =
    sym (ap (λ o. cond (is_some o) (map.insert c.args.self.now.threads c.args.entry.state.path c.args.entry) c.args.self.now.threads) (sym (found_none c.self.inside.seats.items c.deref.result.now c.args.self.now.threads c.deref.ensures.value c.self.invariant (ap (λ s. s.threads) c.self.view_is)
    c.args.entry.state.path _ c.in-Err.ensures.absent)))
