-- HOW MANY SAMPLES the time steps take that end with an act.
use Rattle.std.specs.Prelude.{ℕ, ◌-◌, min, max, Option, Some, None, is_some, cond}
use Rattle.bench_model.specs.Settle.{Limits}
use Rattle.bench_threads.specs.Threads.{edges_ahead}
use Rattle.bench_course.specs.Course.{CourseValue}
use Rattle.bench_course.specs.Ending.{verdict_of}

-- so many edges, where they come before the time steps that are left are over; at least one time step ends
abbrev pub within : (left : ℕ) → Option ℕ → ℕ
within left None = max 1 left
within left (Some edges) = max 1 (min edges left)

-- THE SAMPLES THAT ARE NEEDED where nobody may act: one where the run ends with this time step; else one a time step until the first waiting
-- thread runs, or until the last time step is over
abbrev pub samples_needed : Limits → CourseValue → ℕ
samples_needed l o = cond (is_some (verdict_of l o)) 1 (within (l.time_steps - o.time) (edges_ahead o.threads))
