use Rattle.std.proofs.Common.{◌≡◌, ◌+◌, ◌-◌, ◌*◌}
use Rattle.tl_ast.specs.Limits.{grow, grow_at, always}
use Rattle.tl_ast.specs.ExprGrammar as g
use Rattle.tl_ast.specs.ExprGrammar.{expr_limits}
use Rattle.tl_text.proofs.exprs.+expr.Given as goal

abbrev pub decreases-parens : goal.decreases-parens
decreases-parens l = 64 * l.depth

abbrev pub decreases-plain : goal.decreases-plain
decreases-plain l = 64 * l.depth + 1

abbrev pub decreases-atom : goal.decreases-atom
decreases-atom l = 64 * l.depth + 2

abbrev pub decreases-behind_signs : goal.decreases-behind_signs
decreases-behind_signs l = 64 * l.depth + 3

abbrev pub decreases-signed : goal.decreases-signed
decreases-signed l = 64 * l.depth + 4

abbrev pub decreases-other_operand : goal.decreases-other_operand
decreases-other_operand l = 64 * l.depth + 5

abbrev pub decreases-operand : goal.decreases-operand
decreases-operand l = 64 * l.depth + 6

abbrev pub decreases-behind : goal.decreases-behind
decreases-behind l = 64 * l.depth + 4 * l.loose + 7

abbrev pub decreases-level : goal.decreases-level
decreases-level l = 64 * l.depth + 4 * l.loose + 8

abbrev pub decreases-one_more : goal.decreases-one_more
decreases-one_more l = 64 * l.depth + 4 * l.loose + 9

abbrev pub decreases-chain : goal.decreases-chain
decreases-chain l = 64 * l.depth + 4 * l.loose + 10

abbrev pub decreases-compared : goal.decreases-compared
decreases-compared l = 64 * l.depth + 40

abbrev pub decreases-expr_behind : goal.decreases-expr_behind
decreases-expr_behind l = 64 * l.depth + 41

abbrev pub decreases-expr_in : goal.decreases-expr_in
decreases-expr_in l = 64 * l.depth + 42

abbrev pub invariant-chain-loop-turn : goal.invariant-chain-loop-turn
invariant-chain-loop-turn l =
    grow_at always (g.is_operator l.loose) (λ b. (g.one_more expr_limits.operators l.loose (g.level expr_limits.operators (g.parens expr_limits.operators l.depth) l.loose) b).reads) (l._turn-end - l._turn) l.grown l.tokens
    ≡ (grow always (g.is_operator l.loose) (g.one_more expr_limits.operators l.loose (g.level expr_limits.operators (g.parens expr_limits.operators l.depth) l.loose)) l.fn.first).reads l.fn.tokens
