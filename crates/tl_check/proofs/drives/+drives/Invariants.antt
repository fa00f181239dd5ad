use Rattle.std.proofs.Common.{◌≡◌, map, drop}
use Rattle.tl_check.specs.CoreTests.{drives, some_true}
use Rattle.tl_check.proofs.drives.+drives.Given as goal

abbrev pub invariant-some_drives-loop-stmt : goal.invariant-some_drives-loop-stmt
invariant-some_drives-loop-stmt l = some_true (map drives l.stmts) ≡ some_true (map drives (drop l.stmt-index l.stmts))
