use Rattle.std.specs.Prelude.{codes}
use Rattle.tb_base.proofs.JoinedLemmas.{led_next}
use Rattle.tl_ast.specs.Printed.{expr_text}
use Rattle.tl_ast.proofs.printing.exprs.put_each.Goals as goal

pub loop-expr-preserved : goal.loop-expr-preserved
loop-expr-preserved c =
    led_next (codes " ") expr_text c.args.exprs.now c.loop-expr.expr-index c.expr-item.result c.expr-item.result
    c.args.out.now.items c.loop-expr.out.items c.put.new.out.items c.put_expr.new.out.items
    c.loop-expr-test.true c.expr-item.is c.loop-expr.invariant c.in_ok-put.ensures.ok c.in_ok-put_expr.ensures
