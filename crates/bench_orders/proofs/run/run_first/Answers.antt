use Rattle.bench_run.specs.Told.{result_told}
use Rattle.bench_orders.proofs.Turning.{none_told, some_told, fewer_left, goes_first, goes_through, first_given, first_speaks}
use Rattle.bench_orders.proofs.run.run_first.Goals as goal

pub turns-init : goal.turns-init
turns-init c =
    goes_first c.args.design.now c.args.code.now c.args.limits c.in_ok-bench.bench c.in_ok-bench.ensures.bench c.in_ok-bench.ensures.unmarked

pub take_turn-requires-clause-begins : goal.take_turn-requires-clause-begins
take_turn-requires-clause-begins c = c.turns.invariant.begins

pub turns-smaller : goal.turns-smaller
turns-smaller c =
    fewer_left c.turns.bench c.take_turn.new.bench c.outcome.ensures.bench
    (none_told c.outcome.result c.turns.bench.outcome c.outcome.ensures.is c.turns-test.ensures) c.turns.invariant.begins c.in_ok-take_turn.ensures

pub turns-preserved : goal.turns-preserved
turns-preserved c =
    goes_through c.args.design.now c.args.code.now c.args.limits c.turns.bench c.take_turn.new.bench c.turns.invariant c.in_ok-take_turn.ensures

pub returns-clause-run : goal.returns-clause-run
returns-clause-run c =
    let o = some_told c.outcome.result c.turns.bench.outcome c.outcome.ensures.is c.turns-test.ensures in
    first_given c.args.design.now c.args.code.now c.args.limits c.turns.bench c.turns.invariant c.outcome.ensures.bench o.0 o.1 (result_told c.in-Some.run') c.in-Some.ensures.run

pub returns-clause-speaks : goal.returns-clause-speaks
returns-clause-speaks c =
    let o = some_told c.outcome.result c.turns.bench.outcome c.outcome.ensures.is c.turns-test.ensures in
    first_speaks c.args.design.now c.args.code.now c.args.limits c.turns.bench c.turns.invariant c.outcome.ensures.bench o.0 o.1 (result_told c.in-Some.run') c.in-Some.ensures.run
