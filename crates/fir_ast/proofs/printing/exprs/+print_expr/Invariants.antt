use Rattle.std.proofs.Common.{map, take}
use Rattle.std.specs.Prelude.{codes}
use Rattle.tb_base.proofs.JoinedLemmas.{Wrote}
use Rattle.fir_ast.specs.Printed.{expr_text}
use Rattle.fir_ast.proofs.printing.exprs.+print_expr.Given as goal

abbrev pub invariant-put_exprs-loop-expr : goal.invariant-put_exprs-loop-expr
invariant-put_exprs-loop-expr l = Wrote (codes ", ") l.is_first l.initial.out.items l.out.items l.is_next_first (map expr_text (take l.expr-index l.exprs))
