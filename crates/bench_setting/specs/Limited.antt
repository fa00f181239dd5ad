-- The limits of a run, in the words of the model.
use Rattle.bench_setting.specs.declared.limits.Limits as code
use Rattle.bench_model.specs.Settle.{Limits}

-- an observation of the report is a record of the model
abbrev pub limits_told : code.Limits → Limits
limits_told l = record {
  step_actions = l.step_actions;
  threads = l.threads;
  records = l.observations;
  run_actions = l.run_actions;
  time_steps = l.time_steps;
}
