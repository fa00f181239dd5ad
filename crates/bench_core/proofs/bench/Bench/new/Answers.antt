use Rattle.bench_core.specs.Laws.{MayBegin}
use Rattle.bench_core.proofs.Begun.{begun}
use Rattle.bench_core.proofs.bench.Bench.new.Goals as goal

pub invariant_of-result : goal.invariant_of-result
invariant_of-result g c =
    let may : MayBegin c.args.design.now c.args.code.now c.args.limits = record {
      runs = c.elab-circuit.ensures.runs;
      code = c.test-test.ensures.code;
      ports = c.requires.ports;
      step_actions = c.requires.step_actions;
      run_actions = c.requires.run_actions;
    } in
    (begun c.args.design.now c.in_ok-copy.field-0 c.new-device.result c.args.code.now c.in_ok-code.code c.args.limits c.in_ok-root.root c.in_ok-course.course c.new-2.result.items
    c.in_ok-copy.ensures c.new-device.ensures c.in_ok-code.ensures c.in_ok-root.ensures.is c.in_ok-course.ensures c.new-2.ensures.items c.the_first_bench_is_one.ensures may).0

pub returns-clause-unmarked : goal.returns-clause-unmarked
returns-clause-unmarked g c =
    let may : MayBegin c.args.design.now c.args.code.now c.args.limits = record {
      runs = c.elab-circuit.ensures.runs;
      code = c.test-test.ensures.code;
      ports = c.requires.ports;
      step_actions = c.requires.step_actions;
      run_actions = c.requires.run_actions;
    } in
    (begun c.args.design.now c.in_ok-copy.field-0 c.new-device.result c.args.code.now c.in_ok-code.code c.args.limits c.in_ok-root.root c.in_ok-course.course c.new-2.result.items
    c.in_ok-copy.ensures c.new-device.ensures c.in_ok-code.ensures c.in_ok-root.ensures.is c.in_ok-course.ensures c.new-2.ensures.items c.the_first_bench_is_one.ensures may).1

pub returns-clause-is : goal.returns-clause-is
returns-clause-is g c = invariant_of-result g c
