use Rattle.std.proofs.Common.{ap, refl, sym, ◌∙◌}
use Rattle.std.specs.List.{list_any}
use Rattle.bench_threads.specs.declared.entry.Entry.{Entry}
use Rattle.bench_threads.specs.Modes.{waits_step}
use Rattle.bench_threads.proofs.Shelved.{values_seen}
use Rattle.bench_threads.proofs.shelf.Shelf.awaits.Goals as goal

pub returns : goal.returns
returns c =
    c.some_awaits.ensures ∙ ap (list_any (λ (e : Entry). waits_step c.args.child.now e.mode)) c.as_slice.ensures.value
    ∙ ap (list_any (λ (e : Entry). waits_step c.args.child.now e.mode)) (sym (values_seen c.self.inside.seats.items c.self.inside.seats.items c.args.self.now.threads refl c.self.invariant (ap (λ s. s.threads) c.self.view_is)))
