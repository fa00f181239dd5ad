use Rattle.std.proofs.Common.{◌≡◌, ◌-◌}
use Rattle.tl_ast.specs.Limits.{grow_at}
use Rattle.tl_ast.specs.ExprGrammar.{expr_limits}
use Rattle.tl_ast.specs.TestGrammar as g
use Rattle.tl_text.proofs.lists.listed_behind.Given as goal

abbrev pub invariant-loop-turn : goal.invariant-loop-turn
invariant-loop-turn l = grow_at g.may_be_index g.is_suffix (λ b. (g.listed_further expr_limits b).reads) (l._turn-end - l._turn) l.listed l.tokens ≡ (g.listed_behind expr_limits l.fn.first).reads l.fn.tokens
