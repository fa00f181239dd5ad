-- What a run of the program gives, in the words of the model.
use Rattle.std.specs.Prelude.{ℕ, map}
use Rattle.bench_model.specs.World.{Record}
use Rattle.bench_model.specs.Settle.Ending.{failed, spent_at, finished, thread_limit, record_limit, action_limit, time_limit}
use Rattle.bench_model.specs.Orders as m
use Rattle.bench_model.specs.Orders.{Result, conflict, step_limit, settles}
use Rattle.order_rel.specs.Logs.{region_number, event_told}
use Rattle.bench_run.specs.declared.observation.Observation.{Observation}
use Rattle.bench_run.specs.declared.outcome.Outcome.{Outcome}
use Rattle.bench_run.specs.declared.outcome.Outcome.TheVariants.{Conflict, StepActions, Failed, Spent, Finished, ThreadLimit, RecordLimit, RunActions, TimeLimit}
use Rattle.bench_run.specs.declared.run.Run.{Run}

-- an observation is a record; regions and ports are numbered
abbrev pub record_told : Observation → Record
record_told o = record { time = o.time; region = region_number o.region; path = o.path; place = o.place; line = o.line; signal = o.port.0; value = o.value; wanted = o.wanted }

-- a conflict names its two events; the limit of one time step stands alone; the seven others are endings of a run that settles
abbrev pub outcome_told : Outcome → m.Outcome
outcome_told (Conflict time first second) = conflict time (event_told first) (event_told second)
outcome_told (StepActions time) = step_limit time
outcome_told (Failed time) = settles time failed
outcome_told (Spent time path line) = settles time (spent_at path line)
outcome_told (Finished time) = settles time finished
outcome_told (ThreadLimit time) = settles time thread_limit
outcome_told (RecordLimit time) = settles time record_limit
outcome_told (RunActions time) = settles time action_limit
outcome_told (TimeLimit time) = settles time time_limit

-- the time step of an outcome
abbrev pub outcome_time : m.Outcome → ℕ
outcome_time (conflict time first second) = time
outcome_time (step_limit time) = time
outcome_time (settles time ending) = time

-- WHAT A RUN GIVES is a result of the model
abbrev pub result_told : Run → Result
result_told r = record { records = map record_told r.observations; samples = r.samples; actions = r.actions; outcome = outcome_told r.outcome }
