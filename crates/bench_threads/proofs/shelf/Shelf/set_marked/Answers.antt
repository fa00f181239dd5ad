use Rattle.std.proofs.Common.{ap, refl, set, is_some}
use Rattle.bench_threads.specs.Threads.{with_mark}
use Rattle.bench_threads.proofs.Shelved.{found_in, found_none, changed, unchanged}
use Rattle.bench_threads.proofs.shelf.Shelf.set_marked.Goals as goal

pub invariant_of-self : goal.invariant_of-self
invariant_of-self c = (changed c.self.inside.seats.items c.deref.result.now c.args.self.now.threads c.deref.ensures.value c.self.invariant (ap (λ s. s.threads) c.self.view_is)
    (with_mark c.args.marked) c.args.path.now c.in-Ok.at c.index_mut.result.now (set c.self.inside.seats.items c.in-Ok.at c.set_marked.new.self) (λ e. refl) c.in-Ok.ensures.found c.index_mut.ensures.value
    (ap (set c.self.inside.seats.items c.in-Ok.at) c.set_marked.ensures)).sorted

pub returns-in-Ok-clause-found : goal.returns-in-Ok-clause-found
returns-in-Ok-clause-found c = ap is_some (found_in c.self.inside.seats.items c.deref.result.now c.args.self.now.threads c.deref.ensures.value c.self.invariant (ap (λ s. s.threads) c.self.view_is) c.args.path.now c.in-Ok.at c.index_mut.result.now c.in-Ok.ensures.found)

pub returns-in-Ok-clause-threads : goal.returns-in-Ok-clause-threads
returns-in-Ok-clause-threads c = (changed c.self.inside.seats.items c.deref.result.now c.args.self.now.threads c.deref.ensures.value c.self.invariant (ap (λ s. s.threads) c.self.view_is)
    (with_mark c.args.marked) c.args.path.now c.in-Ok.at c.index_mut.result.now (set c.self.inside.seats.items c.in-Ok.at c.set_marked.new.self) (λ e. refl) c.in-Ok.ensures.found c.index_mut.ensures.value
    (ap (set c.self.inside.seats.items c.in-Ok.at) c.set_marked.ensures)).is

pub returns-in-Err-clause-found : goal.returns-in-Err-clause-found
returns-in-Err-clause-found c = ap is_some (found_none c.self.inside.seats.items c.deref.result.now c.args.self.now.threads c.deref.ensures.value c.self.invariant (ap (λ s. s.threads) c.self.view_is) c.args.path.now _ c.in-Err.ensures.absent)

pub returns-in-Err-clause-threads : goal.returns-in-Err-clause-threads
returns-in-Err-clause-threads c = unchanged c.self.inside.seats.items c.deref.result.now c.args.self.now.threads c.deref.ensures.value c.self.invariant (ap (λ s. s.threads) c.self.view_is) (with_mark c.args.marked) c.args.path.now _ c.in-Err.ensures.absent
