use Rattle.std.proofs.Common.{◌≡◌, drop}
use Rattle.bench_threads.specs.Shelves.{first_unmarked}
use Rattle.bench_threads.proofs.shelf.Shelf.first_unmarked.Given as goal

abbrev pub invariant-loop-seat : goal.invariant-loop-seat
invariant-loop-seat l = first_unmarked (drop l.seat-index l.seat-items) ≡ first_unmarked l.seat-items
