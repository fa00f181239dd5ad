use Rattle.std.proofs.Common.{◌≡◌, ◌+◌, ◌-◌, ◌*◌}
use Rattle.text_grammar.specs.Part.{carried, cons}
use Rattle.text_grammar.proofs.Reading.{gathered}
use Rattle.fir_ast.specs.Limits.{limits, grow_up_to}
use Rattle.fir_ast.specs.ExprGrammar as g
use Rattle.fir_expr.proofs.exprs.+expr.Given as goal

abbrev pub decreases-inside : goal.decreases-inside
decreases-inside l = 16 * l.depth

abbrev pub decreases-computed_index : goal.decreases-computed_index
decreases-computed_index l = 16 * l.depth + 1

abbrev pub decreases-index : goal.decreases-index
decreases-index l = 16 * l.depth + 2

abbrev pub decreases-suffix : goal.decreases-suffix
decreases-suffix l = 16 * l.depth + 3

abbrev pub decreases-suffixes : goal.decreases-suffixes
decreases-suffixes l = 16 * l.depth + 4

abbrev pub decreases-reference_at : goal.decreases-reference_at
decreases-reference_at l = 16 * l.depth + 5

abbrev pub decreases-further_operand : goal.decreases-further_operand
decreases-further_operand l = 16 * l.depth + 1

abbrev pub decreases-further_operands : goal.decreases-further_operands
decreases-further_operands l = 16 * l.depth + 2

abbrev pub decreases-operands : goal.decreases-operands
decreases-operands l = 16 * l.depth + 3

abbrev pub decreases-operation : goal.decreases-operation
decreases-operation l = 16 * l.depth + 4

abbrev pub decreases-literal_or : goal.decreases-literal_or
decreases-literal_or l = 16 * l.depth + 6

abbrev pub decreases-operation_or : goal.decreases-operation_or
decreases-operation_or l = 16 * l.depth + 6

abbrev pub decreases-expr_at : goal.decreases-expr_at
decreases-expr_at l = 16 * l.depth + 7

abbrev pub invariant-suffixes-loop-turn : goal.invariant-suffixes-loop-turn
invariant-suffixes-loop-turn l =
    (grow_up_to (32 - l._turn) g.is_suffix (λ of. g.suffix l.depth (g.expr_inside limits.suffixes l.depth) of) l.grown).reads l.tokens
    ≡ (grow_up_to limits.suffixes g.is_suffix (λ of. g.suffix l.depth (g.expr_inside limits.suffixes l.depth) of) l.fn.first).reads l.fn.tokens

abbrev pub invariant-further_operands-loop-turn : goal.invariant-further_operands-loop-turn
invariant-further_operands-loop-turn l =
    gathered l.found ((g.after_commas (l.count - l._turn) (g.expr_inside limits.suffixes l.depth)).reads l.tokens)
    ≡ carried cons l.fn.first ((g.after_commas l.count (g.expr_inside limits.suffixes l.depth)).reads l.fn.tokens)
