use Rattle.std.proofs.Common.{◌≡◌, ◌++◌, map, take}
use Rattle.tl_ast.specs.Printed.{stmt_text, block_text}
use Rattle.tl_ast.proofs.printing.stmts.+print_stmt.Given as goal

abbrev pub invariant-put_stmts-loop-stmt : goal.invariant-put_stmts-loop-stmt
invariant-put_stmts-loop-stmt l = l.out.items ≡ l.initial.out.items ++ block_text (map stmt_text (take l.stmt-index l.stmts)) l.indent
