-- The rules on parentheses, in words of operators.
--
-- In the printed form a place asks for a tightness, and a two-sided operation that is looser stands there in parentheses. The law
-- says which these are.
use Rattle.std.specs.Prelude.{Bool, true, false, ◌≡◌, ◌==◌, ◌&&◌, ◌||◌, nat_lt}
use Rattle.tl_ast.specs.declared.tree.TestOp.{TestOp}
use Rattle.tl_ast.specs.declared.tree.TestOp.TheVariants.{Eq, Neq, Lt, Leq, Gt, Geq}
use Rattle.tl_ast.specs.Printed.{tightness, left_asks, right_asks, minus_asks}

abbrev pub is_comparison : TestOp → Bool
is_comparison Eq = true
is_comparison Neq = true
is_comparison Lt = true
is_comparison Leq = true
is_comparison Gt = true
is_comparison Geq = true
is_comparison _ = false

abbrev pub is_looser : TestOp → TestOp → Bool
is_looser inner own = nat_lt (tightness inner) (tightness own)

abbrev pub is_as_tight : TestOp → TestOp → Bool
is_as_tight inner own = tightness inner == tightness own

-- which operands of the operator `inner` stand in parentheses
pub record ParenthesesRules : Type 0 where
  -- on the left of an operation: those of a looser operator, and a comparison under a comparison
  pub on_left : (own inner : TestOp) → nat_lt (tightness inner) (left_asks own) ≡ (is_looser inner own || (is_comparison inner && is_comparison own))
  -- on its right: those of a looser operator, and those of one as tight, so a comparison under a comparison too
  pub on_right : (own inner : TestOp) → nat_lt (tightness inner) (right_asks own) ≡ (is_looser inner own || is_as_tight inner own)
  -- under a one-sided `-`: all
  pub under_minus : (inner : TestOp) → nat_lt (tightness inner) minus_asks ≡ true
  -- a whole expression: none
  pub alone : (inner : TestOp) → nat_lt (tightness inner) 0 ≡ false
