-- THE TURNS OF THE ONE-THREAD RUN over a bench.
use Rattle.std.specs.Prelude.{◌≡◌, [], ◌∷◌, ◌++◌, length, Some}
use Rattle.bench_model.specs.Paths.{Path}
use Rattle.bench_model.specs.Orders.{least_of_run, first_order_within}
use Rattle.bench_core.specs.Bench.{BenchValue, NothingMarked, setting_in, run_in}

-- A BENCH IS AT THE BEGINNING OF A TURN: no thread is marked, and the acts so far are the first ones of the one-thread order
pub record BeginsTurn (b : BenchValue) : Type 0 where
  pub unmarked : NothingMarked b
  pub first : b.order ≡ first_order_within (setting_in b) (length b.order)

-- a bench after a turn: it has taken one act more, that of the least enabled path; no thread is marked, and circuit, code and limits are the same
pub record HasTurned (b n : BenchValue) : Type 0 where
  pub path : Path
  pub least : least_of_run (run_in b) ≡ Some path
  pub order : n.order ≡ b.order ++ path ∷ []
  pub unmarked : NothingMarked n
  pub code : n.code ≡ b.code
  pub limits : n.limits ≡ b.limits
  pub elab : n.course.elab ≡ b.course.elab
  pub net : n.course.net ≡ b.course.net
