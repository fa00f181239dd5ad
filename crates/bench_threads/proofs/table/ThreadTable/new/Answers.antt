use Rattle.std.proofs.Common.{ap, ◌∙◌}
use Rattle.std.specs.FinMap as map
use Rattle.bench_model.specs.Paths.{path_cmp}
use Rattle.bench_threads.proofs.table.ThreadTable.new.Goals as goal

pub insert-requires-clause-absent : goal.insert-requires-clause-absent
insert-requires-clause-absent c =
    ap (λ t. map.get t c.in_ok-seat.seat.state.path) (c.reserve_one.ensures.threads ∙ c.new-queues.ensures) ∙ map.get-empty path_cmp c.in_ok-seat.seat.state.path
