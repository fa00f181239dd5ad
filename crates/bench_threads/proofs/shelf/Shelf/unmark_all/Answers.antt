use Rattle.std.proofs.Common.{ap, refl, ◌∙◌, ◌++◌, false, take, drop, length, map}
use Rattle.bench_threads.specs.Threads.{with_mark}
use Rattle.bench_threads.proofs.Shelved.{all_changed, written}
use Rattle.bench_threads.proofs.shelf.Shelf.unmark_all.Goals as goal

pub invariant_of-self : goal.invariant_of-self
invariant_of-self c = (all_changed (with_mark false) (λ e. refl) c.self.inside.seats.items (take c.self.inside.seats.len (c.unmark.new.seats ++ drop (length c.unmark.new.seats) c.self.inside.seats.items)) c.args.self.now.threads c.self.invariant (ap (λ s. s.threads) c.self.view_is)
    (written (with_mark false) c.self.inside.seats.items c.unmark.new.seats c.self.inside.seats.len c.self.inside.seats.ok.0 (c.unmark.ensures ∙ ap (map (with_mark false)) c.as_mut_slice.ensures.value))).sorted

pub returns-clause-threads : goal.returns-clause-threads
returns-clause-threads c = (all_changed (with_mark false) (λ e. refl) c.self.inside.seats.items (take c.self.inside.seats.len (c.unmark.new.seats ++ drop (length c.unmark.new.seats) c.self.inside.seats.items)) c.args.self.now.threads c.self.invariant (ap (λ s. s.threads) c.self.view_is)
    (written (with_mark false) c.self.inside.seats.items c.unmark.new.seats c.self.inside.seats.len c.self.inside.seats.ok.0 (c.unmark.ensures ∙ ap (map (with_mark false)) c.as_mut_slice.ensures.value))).is
