use Rattle.tl_code.specs.Codes.{core_of}
use Rattle.tl_prepare.specs.Steps.{core_of_runner}
use Rattle.tl_prepare.proofs.Holding.{fetched_held}
use Rattle.tl_prepare.proofs.Starting.{fitting_works, start_works}
use Rattle.tl_prepare.proofs.prepared.prepare.Goals as goal

pub execute-requires-clause-works : goal.execute-requires-clause-works
execute-requires-clause-works c =
    start_works c.args.code.now.placed c.placed.result.now c.args.thread.now.path c.in_ok-start.start.path (core_of c.args.thread.now) (core_of_runner c.in_ok-start.start)
    c.placed.ensures.is c.in_ok-start.ensures.path c.in_ok-start.ensures.core
    (fitting_works c.a_fitting_state_stands.ensures c.code_does_the_next_move.ensures c.what_stands_fits.ensures c.args.code.now c.args.thread.now c.placed.ensures.code c.requires)

pub returns-clause-fetched : goal.returns-clause-fetched
returns-clause-fetched c =
    fetched_held c.complete.result c.args.code.now c.placed.result.now c.in_ok-executed.executed.fetched.items c.placed.ensures.is c.in_ok-executed.ensures.fetched c.complete.ensures.fetched
