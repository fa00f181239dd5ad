use Rattle.std.proofs.Common.{◌≡◌, ◌+◌, ◌-◌, ◌*◌}
use Rattle.text_grammar.specs.Part.{many_at}
use Rattle.text_grammar.proofs.Reading.{gathered}
use Rattle.tl_ast.specs.ExprGrammar.{expr_limits}
use Rattle.tl_ast.specs.TestGrammar as g
use Rattle.tl_text.proofs.blocks.+stmt.Given as goal

abbrev pub decreases-block : goal.decreases-block
decreases-block l = 16 * l.blocks

abbrev pub decreases-else_block : goal.decreases-else_block
decreases-else_block l = 16 * l.blocks + 1

abbrev pub decreases-if_row : goal.decreases-if_row
decreases-if_row l = 16 * l.blocks + 2

abbrev pub decreases-while_row : goal.decreases-while_row
decreases-while_row l = 16 * l.blocks + 1

abbrev pub decreases-repeat_row : goal.decreases-repeat_row
decreases-repeat_row l = 16 * l.blocks + 1

abbrev pub decreases-fork_block : goal.decreases-fork_block
decreases-fork_block l = 16 * l.blocks + 1

abbrev pub decreases-forked : goal.decreases-forked
decreases-forked l = 16 * l.blocks + 2

abbrev pub decreases-fork_in : goal.decreases-fork_in
decreases-fork_in l = 16 * l.blocks + 3

abbrev pub decreases-fork_row : goal.decreases-fork_row
decreases-fork_row l = 16 * l.blocks + 4

abbrev pub decreases-row : goal.decreases-row
decreases-row l = 16 * l.blocks + 5

abbrev pub decreases-stmt : goal.decreases-stmt
decreases-stmt l = 16 * l.blocks + 6

abbrev pub decreases-stmts : goal.decreases-stmts
decreases-stmts l = 16 * l.blocks + 7

abbrev pub invariant-stmts-loop-turn : goal.invariant-stmts-loop-turn
invariant-stmts-loop-turn l =
    gathered l.found (many_at g.begins_stmt (g.stmt_in expr_limits (g.block_within expr_limits l.blocks) l.forks).reads (l._turn-end - l._turn) l.tokens)
    ≡ (g.stmts_in expr_limits (g.block_within expr_limits l.blocks) l.forks).reads l.fn.tokens
