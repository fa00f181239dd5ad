-- What the functions of this crate answer, in the words of the model.
use Rattle.std.specs.Prelude.{Option, Some, None}
use Rattle.bench_model.specs.declared.limits.EndLimits.{EndLimits}
use Rattle.bench_model.specs.declared.limits.Passed.{Passed}
use Rattle.bench_model.specs.declared.limits.Passed.TheVariants.{Threads, Records, Actions, TimeSteps}
use Rattle.bench_model.specs.Settle.{Limits, Ending}
use Rattle.bench_model.specs.Settle.Ending.{thread_limit, record_limit, action_limit, time_limit}

-- the limits at the end of a time step; that of one time step's actions has no part in it
abbrev pub limits_told : EndLimits → Limits
limits_told l = record { step_actions = 0; threads = l.threads; records = l.records; run_actions = l.actions; time_steps = l.time_steps }

-- the ending of a limit that is passed
abbrev pub limit_told : Passed → Ending
limit_told Threads = thread_limit
limit_told Records = record_limit
limit_told Actions = action_limit
limit_told TimeSteps = time_limit

-- the same where there may be none
abbrev pub passed_told : Option Passed → Option Ending
passed_told None = None
passed_told (Some p) = Some (limit_told p)
