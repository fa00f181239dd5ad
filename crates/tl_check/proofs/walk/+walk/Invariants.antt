use Rattle.std.proofs.Common.{◌≡◌}
use Rattle.tl_check.proofs.Walks.{TurnLeft}
use Rattle.tl_check.proofs.walk.+walk.Given as goal

abbrev pub invariant-walk_all-loop-stmt : goal.invariant-walk_all-loop-stmt
invariant-walk_all-loop-stmt l = record {
  seen : l.seen ≡ l.stmt-index;
  left : TurnLeft l.body l.ports l.region l.stmt-index l.names l.initial.names;
}
