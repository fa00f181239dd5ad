use Rattle.std.proofs.Common.{◌≡◌, ◌++◌, map, take}
use Rattle.std.specs.Prelude.{codes}
use Rattle.tb_base.specs.Joined.{led}
use Rattle.tl_ast.specs.Printed.{expr_text}
use Rattle.tl_ast.proofs.printing.exprs.put_each.Given as goal

abbrev pub invariant-loop-expr : goal.invariant-loop-expr
invariant-loop-expr l = l.out.items ≡ l.initial.out.items ++ led (codes " ") (map expr_text (take l.expr-index l.exprs))
