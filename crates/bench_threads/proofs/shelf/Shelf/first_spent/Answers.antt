use Rattle.std.proofs.Common.{ap, refl, sym, ◌∙◌, arith, Some, drop_of_length-le}
use Rattle.bench_threads.specs.Threads.{spent_in, line_in}
use Rattle.bench_threads.proofs.Shelved.{spent_at, values_seen}
use Rattle.bench_threads.proofs.shelf.Shelf.first_spent.Goals as goal

pub returns-in-Some : goal.returns-in-Some
returns-in-Some c =
    ap (λ p. Some (p, c.in-Some.line)) c.path.ensures
    ∙ sym (spent_at c.args.region c.deref-seat-items.result.now c.loop-seat.seat-index c.in-Some.line c.seat-item.result (omega arith) c.seat-item.is (ap (line_in c.args.region) (sym c.entry.ensures) ∙ sym c.in-Some.ensures))
    ∙ c.loop-seat.invariant ∙ ap (spent_in c.args.region) c.deref-seat-items.ensures.value ∙ ap (spent_in c.args.region) (sym (values_seen c.self.inside.seats.items c.self.inside.seats.items c.args.self.now.threads refl c.self.invariant (ap (λ s. s.threads) c.self.view_is)))

pub returns : goal.returns
returns c =
    sym (ap (spent_in c.args.region) (drop_of_length-le c.deref-seat-items.result.now (omega arith)))
    ∙ c.loop-seat.invariant ∙ ap (spent_in c.args.region) c.deref-seat-items.ensures.value ∙ ap (spent_in c.args.region) (sym (values_seen c.self.inside.seats.items c.self.inside.seats.items c.args.self.now.threads refl c.self.invariant (ap (λ s. s.threads) c.self.view_is)))
