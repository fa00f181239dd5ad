use Rattle.std.proofs.Common.{ℕ, ◌<◌}
use Rattle.bench_model.specs.Conflict.{Conflict}
use Rattle.order_rel.specs.Logs.{log_of}
use Rattle.conflict_core.specs.Conflicts.{cone_of}
use Rattle.conflict_core.proofs.conflict.earliest.Given as goal

-- no event so far conflicts with the later one
abbrev pub invariant-loop-place : goal.invariant-loop-place
invariant-loop-place l = (k : ℕ) → k < l.place → Conflict (cone_of l.cones) (log_of l.log) k l.last → ⊥
