use Rattle.std.proofs.Common.{◌≡◌, map, drop}
use Rattle.tl_check.specs.Walk.{part, some_gives}
use Rattle.tl_check.proofs.gives.+gives.Given as goal

abbrev pub invariant-some_gives-loop-stmt : goal.invariant-some_gives-loop-stmt
invariant-some_gives-loop-stmt l = some_gives (map part l.stmts) l.region l.handle ≡ some_gives (map part (drop l.stmt-index l.stmts)) l.region l.handle
