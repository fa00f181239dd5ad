-- SETTLING: time steps end until somebody may act, or the run ends.
use Rattle.std.specs.Prelude.{ℕ, zero, suc, Bool, true, false, Option, Some, None}
use Rattle.bench_model.specs.Settle.{Limits, Ending}
use Rattle.bench_model.specs.Settle.Ending.{time_limit}
use Rattle.bench_threads.specs.Threads.{quiet}
use Rattle.bench_course.specs.Course.{CourseValue}
use Rattle.bench_course.specs.Ending.{verdict_of, sampled, stepped}

-- a course that has settled: somebody may act in it, or the run has ended so
pub record Settled : Type 0 where
  pub course : CourseValue
  pub ending : Option Ending

-- where nobody may act in the new time step, it settles too
abbrev pub settled_on : (again : CourseValue → Settled) → CourseValue → (quiet : Bool) → Settled
settled_on again o true = again o
settled_on again o false = record { course = o; ending = None }

-- an end, or the edge and the next time step
abbrev pub settled_by : (again : CourseValue → Settled) → CourseValue → Option Ending → Settled
settled_by again o (Some ending) = record { course = sampled o; ending = Some ending }
settled_by again o None = settled_on again (stepped (sampled o)) (quiet (stepped (sampled o)).threads)

-- at most so many time steps are settled
abbrev pub settled_from : Limits → ℕ → CourseValue → Settled
settled_from l zero o = record { course = sampled o; ending = Some time_limit }
settled_from l (suc n) o = settled_by (λ v. settled_from l n v) o (verdict_of l o)

-- THE COURSE SETTLED, where nobody may act: the end of the run, or else the next time step, which settles again where nobody may act in it
abbrev pub settled : Limits → CourseValue → Settled
settled l o = settled_from l (suc l.time_steps) o
