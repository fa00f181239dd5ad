use Rattle.std.proofs.Common.{◌≡◌, ◌++◌, map, take, drop, false}
use Rattle.bench_threads.specs.Threads.{with_mark}
use Rattle.bench_threads.proofs.shelf.unmark.Given as goal

abbrev pub invariant-loop-seat : goal.invariant-loop-seat
invariant-loop-seat l = l.seats ≡ map (with_mark false) (take l.seat-index l.fn.seats) ++ drop l.seat-index l.fn.seats
