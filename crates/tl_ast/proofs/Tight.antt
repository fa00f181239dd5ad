-- The tightness of operators, in words of operators.
use Rattle.std.proofs.Common.{◌≡◌, ℕ, zero, suc, true, false, nat_lt, refl, ap, sym, ◌∙◌, arith}
use Rattle.std.specs.Prelude.{◌==◌, ◌&&◌, ◌||◌, max}
use Rattle.std.proofs.lemmas.Bool.Decides.{nat_tests}
use Rattle.tl_ast.specs.declared.tree.TestOp.{TestOp}
use Rattle.tl_ast.specs.declared.tree.TestOp.TheVariants.{Add, Sub, Mul, And, Or, Xor, Shl, Shr, Eq, Neq, Lt, Leq, Gt, Geq}
use Rattle.tl_ast.specs.Printed.{tightness, left_asks, right_asks, minus_asks}
use Rattle.tl_ast.specs.Parentheses.{is_comparison, is_looser, is_as_tight}

pub comparison_is_loosest : (op : TestOp) → is_comparison op ≡ (tightness op == 0)
comparison_is_loosest Add = refl
comparison_is_loosest Sub = refl
comparison_is_loosest Mul = refl
comparison_is_loosest And = refl
comparison_is_loosest Or = refl
comparison_is_loosest Xor = refl
comparison_is_loosest Shl = refl
comparison_is_loosest Shr = refl
comparison_is_loosest Eq = refl
comparison_is_loosest Neq = refl
comparison_is_loosest Lt = refl
comparison_is_loosest Leq = refl
comparison_is_loosest Gt = refl
comparison_is_loosest Geq = refl

pub tightness_small : (op : TestOp) → nat_lt (tightness op) minus_asks ≡ true
tightness_small Add = refl
tightness_small Sub = refl
tightness_small Mul = refl
tightness_small And = refl
tightness_small Or = refl
tightness_small Xor = refl
tightness_small Shl = refl
tightness_small Shr = refl
tightness_small Eq = refl
tightness_small Neq = refl
tightness_small Lt = refl
tightness_small Leq = refl
tightness_small Gt = refl
tightness_small Geq = refl

below_or_both_zero : (i o : ℕ) → nat_lt i (max 1 o) ≡ (nat_lt i o || ((i == 0) && (o == 0)))
below_or_both_zero zero zero = refl
below_or_both_zero (suc i) zero = grind (arith, nat_tests)
below_or_both_zero zero (suc o) = grind (arith, nat_tests)
below_or_both_zero (suc i) (suc o) = grind (arith, nat_tests)

below_or_same : (i o : ℕ) → nat_lt i (suc o) ≡ (nat_lt i o || (i == o))
below_or_same i o = grind (arith, nat_tests)

none_below : (i : ℕ) → nat_lt i 0 ≡ false
none_below i = grind (arith, nat_tests)

pub on_left : (own inner : TestOp) → nat_lt (tightness inner) (left_asks own) ≡ (is_looser inner own || (is_comparison inner && is_comparison own))
on_left own inner =
    below_or_both_zero (tightness inner) (tightness own)
    ∙ ap (λ b. is_looser inner own || (b && (tightness own == 0))) (sym (comparison_is_loosest inner))
    ∙ ap (λ b. is_looser inner own || (is_comparison inner && b)) (sym (comparison_is_loosest own))

pub on_right : (own inner : TestOp) → nat_lt (tightness inner) (right_asks own) ≡ (is_looser inner own || is_as_tight inner own)
on_right own inner = below_or_same (tightness inner) (tightness own)

pub alone : (inner : TestOp) → nat_lt (tightness inner) 0 ≡ false
alone inner = none_below (tightness inner)
