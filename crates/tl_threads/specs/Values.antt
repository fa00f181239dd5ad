-- The number of an expression.
--
-- All numbers are from 0 up to 2 ^ 128, and results are whole numbers modulo 2 ^ 128. Comparisons are without sign and give 1 or 0. A
-- shift by 128 or more gives 0.
use Rattle.std.specs.Prelude.{ℕ, ℤ, pos, ◌+ℤ◌, ◌-ℤ◌, ◌*ℤ◌, ◌*◌, ◌/◌, ◌%◌, ◌^◌, Bool, true, false, not, nat_lt, nat_le, nat_eq, bit_and, bit_or, bit_xor, unwrap_or, List}
use Rattle.std.specs.FinMap as map
use Rattle.std.specs.FinMap.{FinMap}
use Rattle.std.specs.Ordering.{nat_cmp}
use Rattle.std.specs.declared.cmp.Ordering.{Ordering}
use Rattle.std.specs.Cmp.Lexicographic.{slice_cmp}
use Rattle.tb_base.specs.Word.{low_bits}
use Rattle.tl_ast.specs.declared.tree.TestOp.{TestOp}
use Rattle.tl_ast.specs.declared.tree.TestOp.TheVariants.{Add, Sub, Mul, And, Or, Xor, Shl, Shr, Eq, Neq, Lt, Leq, Gt, Geq}
use Rattle.tl_ast.specs.declared.tree.TestExpr.{TestExpr}
use Rattle.tl_ast.specs.declared.tree.TestExpr.TheFolds.{fold-TestExpr}
use Rattle.tl_ast.specs.declared.tree.TestExpr.TheOpen as tree
use Rattle.tl_ast.specs.declared.tree.TestExpr.TheOpen.{TestExpr-F}

-- a name is the list of its bytes
abbrev pub Name : Type 0
Name = List ℕ

-- numbers by name
abbrev pub name_cmp : Name → Name → Ordering
name_cmp = slice_cmp nat_cmp

abbrev pub Numbers : Type 0
Numbers = FinMap name_cmp ℕ

-- an expression
pub data Expr : Type 0 where
  number : ℕ → Expr
  variable : Name → Expr
  minus : Expr → Expr
  two : TestOp → Expr → Expr → Expr

abbrev pub level_expr : TestExpr-F Expr → Expr
level_expr (tree.Num n) = number n
level_expr (tree.Var x) = variable x
level_expr (tree.Neg e) = minus e
level_expr (tree.Two op a b) = two op a b

-- the expression of a tree
abbrev pub expr_of : TestExpr → Expr
expr_of = fold-TestExpr Expr level_expr

-- 1 where it holds, else 0
abbrev pub bit : Bool → ℕ
bit true = 1
bit false = 0

-- modulo 2 ^ 128
abbrev pub wrapped : ℤ → ℕ
wrapped z = low_bits 128 z

abbrev pub shifted_left : ℕ → ℕ → (is_small : Bool) → ℕ
shifted_left a b true = (a * 2 ^ b) % 2 ^ 128
shifted_left a b false = 0

abbrev pub shifted_right : ℕ → ℕ → (is_small : Bool) → ℕ
shifted_right a b true = a / 2 ^ b
shifted_right a b false = 0

-- what an operation gives
abbrev pub operated : TestOp → ℕ → ℕ → ℕ
operated Add a b = wrapped (pos a +ℤ pos b)
operated Sub a b = wrapped (pos a -ℤ pos b)
operated Mul a b = wrapped (pos a *ℤ pos b)
operated And a b = bit_and a b
operated Or a b = bit_or a b
operated Xor a b = bit_xor a b
operated Shl a b = shifted_left a b (nat_lt b 128)
operated Shr a b = shifted_right a b (nat_lt b 128)
operated Eq a b = bit (nat_eq a b)
operated Neq a b = bit (not (nat_eq a b))
operated Lt a b = bit (nat_lt a b)
operated Leq a b = bit (nat_le a b)
operated Gt a b = bit (nat_lt b a)
operated Geq a b = bit (nat_le b a)

abbrev pub negated : ℕ → ℕ
negated a = wrapped (pos 0 -ℤ pos a)

-- the number of a name, and 0 of a name that has none
abbrev pub number_of : Numbers → Name → ℕ
number_of numbers x = unwrap_or (map.get numbers x) 0

-- THE NUMBER OF AN EXPRESSION, where variables have these numbers
abbrev pub value : Numbers → Expr → ℕ
value vars (number n) = n
value vars (variable x) = number_of vars x
value vars (minus e) = negated (value vars e)
value vars (two op a b) = operated op (value vars a) (value vars b)
