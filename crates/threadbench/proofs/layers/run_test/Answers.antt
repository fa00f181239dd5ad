use Rattle.bench_run.specs.Told.{outcome_told, result_told}
use Rattle.bench_setting.specs.Limited.{limits_told}
use Rattle.threadbench.proofs.RunsOfCircuits.{few_step_actions, few_run_actions, standard_is, is_run_of}
use Rattle.threadbench.proofs.layers.run_test.Goals as goal

pub run_first-requires-clause-step_actions : goal.run_first-requires-clause-step_actions
run_first-requires-clause-step_actions c = few_step_actions c.standard_limits-limits.result c.standard_limits-limits.ensures

pub run_first-requires-clause-run_actions : goal.run_first-requires-clause-run_actions
run_first-requires-clause-run_actions c = few_run_actions c.standard_limits-limits.result c.standard_limits-limits.ensures

pub returns-clause-run : goal.returns-clause-run
returns-clause-run c =
    standard_is c.args.design.now.elab c.args.test.now c.in_ok-code.code.test (limits_told c.standard_limits-limits.result)
    (result_told c.in_ok-run.run') c.standard_limits-limits.ensures c.in_ok-code.ensures.test c.in_ok-run.ensures.run

pub returns-clause-ends : goal.returns-clause-ends
returns-clause-ends c =
    is_run_of c.args.design.now.elab c.args.design.now.net c.args.test.now c.in_ok-code.code.test c.test-text.result.now
    (limits_told c.standard_limits-limits.result) (outcome_told c.in_ok-run.run'.outcome) c.elab-circuit.ensures.runs c.requires.ports
    c.test-text.ensures.is c.test-text.ensures.rule c.in_ok-code.ensures.test c.in_ok-run.ensures.speaks
