-- What a thread waits for.
use Rattle.std.specs.Prelude.{Bool, true, false}
use Rattle.std.specs.Ordering.{eq_by_cmp}
use Rattle.bench_model.specs.Paths.{Path, path_cmp}
use Rattle.bench_threads.specs.declared.entry.Mode.{Mode}
use Rattle.bench_threads.specs.declared.entry.Mode.TheVariants.{Running, AtJoin, AtJoinStep}

-- the thread waits for nothing
abbrev pub is_running : Mode → Bool
is_running Running = true
is_running _ = false

-- the thread waits for the end of this child
abbrev pub waits_for : Path → Mode → Bool
waits_for c (AtJoin d) = eq_by_cmp path_cmp c d
waits_for c _ = false

-- the thread waits at a joinstep for this child
abbrev pub waits_step : Path → Mode → Bool
waits_step c (AtJoinStep d) = eq_by_cmp path_cmp c d
waits_step c _ = false
