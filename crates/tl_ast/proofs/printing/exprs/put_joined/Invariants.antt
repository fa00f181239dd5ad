use Rattle.std.proofs.Common.{map, take, true}
use Rattle.std.specs.Prelude.{codes}
use Rattle.tb_base.proofs.JoinedLemmas.{Wrote}
use Rattle.tl_ast.specs.Printed.{expr_text}
use Rattle.tl_ast.proofs.printing.exprs.put_joined.Given as goal

abbrev pub invariant-loop-expr : goal.invariant-loop-expr
invariant-loop-expr l = Wrote (codes " , ") true l.initial.out.items l.out.items l.is_first (map expr_text (take l.expr-index l.exprs))
