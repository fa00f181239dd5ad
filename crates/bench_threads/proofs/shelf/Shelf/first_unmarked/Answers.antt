use Rattle.std.proofs.Common.{ap, refl, sym, ◌∙◌, arith, Some}
use Rattle.bench_threads.specs.declared.entry.Entry.{Entry}
use Rattle.bench_threads.specs.Shelves.{first_unmarked}
use Rattle.bench_threads.proofs.Shelved.{first_at, first_past, values_seen}
use Rattle.bench_threads.proofs.shelf.Shelf.first_unmarked.Goals as goal

pub returns-then-not-entry : goal.returns-then-not-entry
returns-then-not-entry c =
    ap Some (c.entry-then-not-entry.ensures)
    ∙ sym (first_at c.deref-seat-items.result.now c.loop-seat.seat-index c.seat-item.result (omega arith) c.seat-item.is (ap (λ (e : Entry). e.marked) (sym c.entry.ensures) ∙ c.if-not-entry.true))
    ∙ c.loop-seat.invariant ∙ ap first_unmarked c.deref-seat-items.ensures.value ∙ ap first_unmarked (sym (values_seen c.self.inside.seats.items c.self.inside.seats.items c.args.self.now.threads refl c.self.invariant (ap (λ s. s.threads) c.self.view_is)))

pub returns : goal.returns
returns c =
    sym (first_past c.deref-seat-items.result.now c.loop-seat.seat-index (omega arith))
    ∙ c.loop-seat.invariant ∙ ap first_unmarked c.deref-seat-items.ensures.value ∙ ap first_unmarked (sym (values_seen c.self.inside.seats.items c.self.inside.seats.items c.args.self.now.threads refl c.self.invariant (ap (λ s. s.threads) c.self.view_is)))
