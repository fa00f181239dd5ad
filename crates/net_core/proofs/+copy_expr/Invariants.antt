use Rattle.std.proofs.Common.{◌≡◌, take}
use Rattle.net_core.proofs.+copy_expr.Given as goal

abbrev pub invariant-copy::copy_exprs-loop-expr : goal.invariant-copy::copy_exprs-loop-expr
invariant-copy::copy_exprs-loop-expr l = l.copies.items ≡ take l.expr-index l.exprs
