use Rattle.std.proofs.Common.{ap, sym, ◌∙◌, false}
use Rattle.bench_threads.specs.Threads.{with_mark}
use Rattle.bench_threads.proofs.Shelved.{mapped}
use Rattle.bench_threads.proofs.shelf.unmark.Goals as goal

pub loop-seat-preserved : goal.loop-seat-preserved
loop-seat-preserved c =
    mapped (with_mark false) c.args.seats.now c.loop-seat.seats c.loop-seat.seat-index c.seat-item.result c.set_marked.new.self c.loop-seat-test.true c.loop-seat.invariant c.seat-item.is
    (c.set_marked.ensures ∙ ap (with_mark false) (sym c.seat-item.is))
