use Rattle.std.proofs.Common.{sym, ◌∙◌}
use Rattle.bench_setting.specs.Limited.{limits_told}
use Rattle.bench_run.specs.Told.{outcome_told}
use Rattle.bench_settle.proofs.Steps.{left_first, over, goes_on}
use Rattle.bench_settle.proofs.settling.settle.Goals as goal

pub steps-init : goal.steps-init
steps-init g c = record {
  quiet = c.requires.quiet;
  samples = c.requires.samples;
  time = c.requires.time;
  threads = c.requires.threads;
  observations = c.requires.observations;
  left = left_first (limits_told c.args.limits.now) c.args.course.now;
}

pub returns-in-Some-clause-outcome : goal.returns-in-Some-clause-outcome
returns-in-Some-clause-outcome g c =
    over (limits_told c.args.limits.now) c.args.course.now c.steps.course c.end_step.new.self c.steps.invariant.left c.end_step.ensures.course
    (outcome_told c.in-Some.outcome) c.in-Some.ensures.outcome

pub steps-preserved : goal.steps-preserved
steps-preserved g c =
    goes_on (limits_told c.args.limits.now) c.args.course.now c.steps.course c.end_step.new.self c.steps.invariant.left c.end_step.ensures.course
    c.in_default.ensures.outcome c.steps.invariant (sym c.is_quiet.ensures ∙ c.if-not-is_quiet.false) c.end_step.ensures.samples
