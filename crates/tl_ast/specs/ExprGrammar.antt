-- The grammar of a test's expressions.
--
-- From loosest to tightest: at most one comparison, then `|`, `^`, `&`, shifts, `+` and `-`, `*`, a `-` before an operand, and last a
-- number, a word, or an expression in parentheses. All but comparisons group to the left. The operators of an expression are
-- counted from left to right, one-sided ones and those in its parentheses too: each part is told how many stand in front of it,
-- and says how many there are with its own.
use Rattle.std.specs.Prelude.{ℕ, zero, suc, ◌-◌, ◌==◌, Bool, true, false, if◌then◌else◌, Option, Some, None}
use Rattle.text_grammar.specs.declared.item.Item.{Item}
use Rattle.text_grammar.specs.declared.item.Token.{Token}
use Rattle.text_grammar.specs.declared.item.Token.TheVariants as token
use Rattle.text_grammar.specs.declared.item.Symbol.{Symbol}
use Rattle.text_grammar.specs.declared.item.Symbol.TheVariants as s
use Rattle.text_grammar.specs.declared.fault.Kind.TheVariants.{TooDeep}
use Rattle.text_grammar.specs.Part.{Part, first, second, one, both, after, either, nothing, stop}
use Rattle.text_grammar.specs.Terminals.{is_symbol, is_number, mark, name, number}
use Rattle.tl_ast.specs.Limits.{grow, always, room}
use Rattle.tl_ast.specs.declared.tree.TestExpr.{TestExpr}
use Rattle.tl_ast.specs.declared.tree.TestExpr.TheVariants as e
use Rattle.tl_ast.specs.declared.tree.TestOp.{TestOp}
use Rattle.tl_ast.specs.declared.tree.TestOp.TheVariants as op

pub record ExprLimits : Type 0 where
  -- how many parentheses may be open at once
  pub parens : ℕ
  -- how many operators an expression may have, where that is limited
  pub operators : Option ℕ

-- the limits of test texts
abbrev pub expr_limits : ExprLimits
expr_limits = record { parens = 32; operators = Some 64 }

-- an expression, and how many operators there are up to its end
abbrev pub Counted : Type 0
Counted = TestExpr × ℕ

-- ---- operators

abbrev pub symbol_operator : Symbol → Option TestOp
symbol_operator s.Plus = Some op.Add
symbol_operator s.Minus = Some op.Sub
symbol_operator s.Star = Some op.Mul
symbol_operator s.And = Some op.And
symbol_operator s.Or = Some op.Or
symbol_operator s.Xor = Some op.Xor
symbol_operator s.ShiftLeft = Some op.Shl
symbol_operator s.ShiftRight = Some op.Shr
symbol_operator s.EqualEqual = Some op.Eq
symbol_operator s.NotEqual = Some op.Neq
symbol_operator s.Less = Some op.Lt
symbol_operator s.LessEqual = Some op.Leq
symbol_operator s.Greater = Some op.Gt
symbol_operator s.GreaterEqual = Some op.Geq
symbol_operator _ = None

-- how loosely an operator binds
abbrev pub looseness : TestOp → ℕ
looseness op.Mul = 0
looseness op.Add = 1
looseness op.Sub = 1
looseness op.Shl = 2
looseness op.Shr = 2
looseness op.And = 3
looseness op.Xor = 4
looseness op.Or = 5
looseness _ = 6

-- the looseness of comparisons: what is tighter groups to the left
abbrev pub comparison : ℕ
comparison = 6

-- the operator, if it binds so loosely
abbrev pub if_loose : ℕ → Option TestOp → Option TestOp
if_loose n None = None
if_loose n (Some o) = if looseness o == n then Some o else None

abbrev pub token_operator : ℕ → Token → Option TestOp
token_operator n (token.Symbol symbol) = if_loose n (symbol_operator symbol)
token_operator n _ = None

abbrev pub is_some : {A : Type 0} → Option A → Bool
is_some (Some a) = true
is_some None = false

-- an operator that binds so loosely
abbrev pub is_operator : ℕ → Item → Bool
is_operator n x = is_some (token_operator n x.token)

unfoldable pub operator : ℕ → Part TestOp
operator n = one (λ x. token_operator n x.token)

-- ---- operands

abbrev pub counted : ℕ → TestExpr → Counted
counted count x = (x, count)

-- a number
unfoldable pub literal : ℕ → Part Counted
literal count = both (λ n (u : Unit {0}). counted count (e.Num n)) number (nothing tt)

unfoldable pub variable : ℕ → Part Counted
variable count = both (λ w (u : Unit {0}). counted count (e.Var w)) name (nothing tt)

-- what `inside` has in parentheses, or a variable
unfoldable pub plain : (ℕ → Part Counted) → ℕ → Part Counted
plain inside count = either (is_symbol s.OpenParen) (inside count) (variable count)

unfoldable pub atom : (ℕ → Part Counted) → ℕ → Part Counted
atom inside count = either is_number (literal count) (plain inside count)

-- a `-` before an operand is an operator; its value is the new count
unfoldable pub minus : Option ℕ → ℕ → Part ℕ
minus most count = both second (room most count) (both (λ (u : Unit {0}) (v : Unit {0}). suc count) (mark s.Minus) (nothing tt))

unfoldable pub minuses : Option ℕ → ℕ → Part ℕ
minuses most count = grow always (is_symbol s.Minus) (minus most) count

-- so often negated
abbrev pub negated : ℕ → TestExpr → TestExpr
negated zero x = x
negated (suc n) x = e.Neg (negated n x)

-- what stands behind signs, of which the last is the operator of this number
unfoldable pub behind_signs : (ℕ → Part Counted) → ℕ → ℕ → Part Counted
behind_signs inside count now = both (λ v (u : Unit {0}). (negated (now - count) v.0, v.1)) (atom inside now) (nothing tt)

unfoldable pub signed : Option ℕ → (ℕ → Part Counted) → ℕ → Part Counted
signed most inside count = after (after (minus most count) (minuses most)) (behind_signs inside count)

-- an operand that does not begin with a number
unfoldable pub other_operand : Option ℕ → (ℕ → Part Counted) → ℕ → Part Counted
other_operand most inside count = either (is_symbol s.Minus) (signed most inside count) (plain inside count)

unfoldable pub operand : Option ℕ → (ℕ → Part Counted) → ℕ → Part Counted
operand most inside count = either is_number (literal count) (other_operand most inside count)

-- ---- expressions, where what `inside` has stands in parentheses

-- one operator that binds so loosely, and what stands on its right
unfoldable pub one_more : Option ℕ → ℕ → (ℕ → Part Counted) → Counted → Part Counted
one_more most n right v = both second (room most v.1) (both (λ found w. (e.Two found v.0 w.0, w.1)) (operator n) (right (suc v.1)))

-- what follows a first operand, up to an operator that binds so loosely
unfoldable pub behind : Option ℕ → (ℕ → Part Counted) → ℕ → Counted → Part Counted
behind most inside zero v = nothing v
behind most inside (suc n) v =
    after (behind most inside n v) (grow always (is_operator n) (one_more most n (λ count. after (operand most inside count) (behind most inside n))))

-- operands of operators that bind tighter
unfoldable pub level : Option ℕ → (ℕ → Part Counted) → ℕ → ℕ → Part Counted
level most inside n count = after (operand most inside count) (behind most inside n)

-- at most one comparison
unfoldable pub compared : Option ℕ → (ℕ → Part Counted) → Counted → Part Counted
compared most inside v = either (is_operator comparison) (one_more most comparison (level most inside comparison) v) (nothing v)

-- an expression behind its first operand, and a whole one
unfoldable pub expr_behind : Option ℕ → (ℕ → Part Counted) → Counted → Part Counted
expr_behind most inside v = after (behind most inside comparison v) (compared most inside)

unfoldable pub expr_in : Option ℕ → (ℕ → Part Counted) → ℕ → Part Counted
expr_in most inside count = after (operand most inside count) (expr_behind most inside)

-- `( E )`, where so many parentheses may still be opened, these included
unfoldable pub parens : Option ℕ → ℕ → ℕ → Part Counted
parens most zero count = stop TooDeep
parens most (suc depth) count = both second (mark s.OpenParen) (both first (expr_in most (parens most depth) count) (mark s.CloseParen))

-- ---- the parts that statements are made of

-- without the count
unfoldable pub uncounted : Part Counted → Part TestExpr
uncounted p = both (λ v (u : Unit {0}). v.0) p (nothing tt)

unfoldable pub expr : ExprLimits → Part TestExpr
expr l = uncounted (expr_in l.operators (parens l.operators l.parens) 0)

-- an expression whose first operand is a number that was taken
unfoldable pub expr_from_number : ExprLimits → ℕ → Part Counted
expr_from_number l n = expr_behind l.operators (parens l.operators l.parens) (counted 0 (e.Num n))

-- an expression that does not begin with a number
unfoldable pub other_expr : ExprLimits → Part TestExpr
other_expr l = uncounted (after (other_operand l.operators (parens l.operators l.parens) 0) (expr_behind l.operators (parens l.operators l.parens)))
