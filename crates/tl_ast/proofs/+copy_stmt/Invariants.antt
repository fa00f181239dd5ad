use Rattle.std.proofs.Common.{◌≡◌, take}
use Rattle.tl_ast.proofs.+copy_stmt.Given as goal

abbrev pub invariant-copy::copy_stmts-loop-stmt : goal.invariant-copy::copy_stmts-loop-stmt
invariant-copy::copy_stmts-loop-stmt l = l.copies.items ≡ take l.stmt-index l.stmts
