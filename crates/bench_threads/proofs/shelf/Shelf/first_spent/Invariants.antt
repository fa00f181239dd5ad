use Rattle.std.proofs.Common.{◌≡◌, drop}
use Rattle.bench_threads.specs.Threads.{spent_in}
use Rattle.bench_threads.proofs.shelf.Shelf.first_spent.Given as goal

abbrev pub invariant-loop-seat : goal.invariant-loop-seat
invariant-loop-seat l = spent_in l.region (drop l.seat-index l.seat-items) ≡ spent_in l.region l.seat-items
