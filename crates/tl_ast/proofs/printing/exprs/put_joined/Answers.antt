use Rattle.std.proofs.Common.{true}
use Rattle.std.specs.Prelude.{codes}
use Rattle.tb_base.proofs.JoinedLemmas.{wrote_next}
use Rattle.tl_ast.specs.Printed.{expr_text}
use Rattle.tl_ast.proofs.printing.exprs.put_joined.Goals as goal

pub loop-expr-preserved : goal.loop-expr-preserved
loop-expr-preserved c =
    wrote_next (codes " , ") expr_text c.args.exprs.now c.loop-expr.expr-index c.expr-item.result c.expr-item.result true
    c.loop-expr.is_first c.args.out.now.items c.loop-expr.out.items c.put_gap.new.out.items c.put_expr.new.out.items
    c.loop-expr-test.true c.expr-item.is c.loop-expr.invariant c.in_ok-put_gap.ensures.ok c.in_ok-put_expr.ensures
