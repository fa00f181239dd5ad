use Rattle.std.proofs.Common.{rules, map}
use Rattle.tl_check.specs.Walk.{part, some_gives}
use Rattle.tl_check.proofs.Walks.{let_ends}
use Rattle.tl_check.proofs.walk.+walk.Goals as goal

pub walk_stmt-returns-in_ok-add_variable-in-Let : goal.walk_stmt-returns-in_ok-add_variable-in-Let
walk_stmt-returns-in_ok-add_variable-in-Let t c =
    let_ends c.args.stmt.now c.in-Let.line c.in-Let.name c.in-Let.value c.args.ports.now c.args.region (some_gives (map part c.args.rest.now) c.args.region) c.args.names.now c.add_variable.new.self
    c.in-Let.is c.in_ok-judge.ensures (search rules)
