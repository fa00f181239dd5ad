use Rattle.std.proofs.Common.{map}
use Rattle.std.specs.Prelude.{codes}
use Rattle.std.specs.Fmt.{decimal}
use Rattle.tb_base.proofs.JoinedLemmas.{wrote_next, two_parts}
use Rattle.fir_ast.specs.Printed.{expr_text}
use Rattle.fir_ast.proofs.printing.exprs.+print_expr.Goals as goal

pub put_exprs-loop-expr-preserved : goal.put_exprs-loop-expr-preserved
put_exprs-loop-expr-preserved t c =
    wrote_next (codes ", ") expr_text c.args.exprs.now c.loop-expr.expr-index c.expr-item.result c.expr-item.result c.args.is_first
    c.loop-expr.is_next_first c.args.out.now.items c.loop-expr.out.items c.put_gap.new.out.items c.put_expr.new.out.items
    c.loop-expr-test.true c.expr-item.is c.loop-expr.invariant c.in_ok-put_gap.ensures.ok c.in_ok-put_expr.ensures

pub put_operands-returns : goal.put_operands-returns
put_operands-returns t c =
    two_parts (codes ", ") expr_text c.args.args.now (map decimal c.args.nums.now) c.is_empty.result c.args.out.now.items
    c.put_exprs.new.out.items c.put_decimals.new.out.items c.in_ok-put_exprs.ensures c.in_ok-put_decimals.ensures c.is_empty.ensures
