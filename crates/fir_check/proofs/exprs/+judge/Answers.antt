use Rattle.std.proofs.Common.{List, subst, ◌≡◌}
use Rattle.fir_ast.specs.declared.tree.Expr.{Expr}
use Rattle.fir_ast.specs.declared.tree.Expr.TheVariants as expr
use Rattle.fir_check.specs.KnownSeen.{seen}
use Rattle.fir_check.specs.Judging.{Gathers, Judges}
use Rattle.std.proofs.Common.{sym}
use Rattle.fir_check.proofs.Judging.{judges_apply, gathers_next, judges_index}
use Rattle.fir_check.proofs.exprs.+judge.Goals as goal

pub judge_operands-loop-k-preserved : goal.judge_operands-loop-k-preserved
judge_operands-loop-k-preserved t c =
    gathers_next c.args.types.now (seen c.args.types.now c.args.scope.now) c.args.wrong c.args.args.now c.loop-k.k c.index-args-k.result c.loop-k.operands c.with-operands.result c.judge_expr-next.result c.loop-k-test.true c.index-args-k.is
    c.loop-k.invariant c.judge_expr-next.ensures c.with-operands.ensures

pub judge_expr-returns-in-Apply : goal.judge_expr-returns-in-Apply
judge_expr-returns-in-Apply t c =
    subst (λ (e : Expr). Judges c.args.types.now (seen c.args.types.now c.args.scope.now) c.args.wrong e c.judge_apply.result) (sym c.in-Apply.is)
    (judges_apply c.args.types.now (seen c.args.types.now c.args.scope.now) c.args.wrong c.in-Apply.op c.in-Apply.args c.in-Apply.nums c.judge_operands-operands.result c.judge_apply.result
    (subst (λ (es : List Expr). Gathers c.args.types.now (seen c.args.types.now c.args.scope.now) c.args.wrong es c.judge_operands-operands.result) c.as_slice.ensures c.judge_operands-operands.ensures)
    (record { meaning_is = c.judge_apply.ensures.meaning; unknown_is = c.judge_apply.ensures.unknown; wrong_is = c.judge_apply.ensures.wrong; clock_is = c.judge_apply.ensures.clock }))

pub judge_expr-returns-in-Index : goal.judge_expr-returns-in-Index
judge_expr-returns-in-Index t c =
    let i : c.args.expr.now ≡ expr.Index c.get-in-Index.result.now c.get-in-Index-2.result.now = cc in
    judges_index c.args.types.now (seen c.args.types.now c.args.scope.now) c.args.wrong c.args.expr.now c.get-in-Index.result.now c.get-in-Index-2.result.now c.judge_expr-of-in-Index.result c.judge_expr-at.result c.judge_index.result i
    c.judge_expr-of-in-Index.ensures c.judge_expr-at.ensures
    (record { meaning_is = c.judge_index.ensures.meaning; unknown_is = c.judge_index.ensures.unknown; wrong_is = c.judge_index.ensures.wrong; clock_is = c.judge_index.ensures.clock })
