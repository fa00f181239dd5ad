use Rattle.std.proofs.Common.{◌≡◌, ◌-◌}
use Rattle.text_grammar.specs.Part.{many_at}
use Rattle.text_grammar.proofs.Reading.{gathered}
use Rattle.tl_ast.specs.ExprGrammar.{expr_limits}
use Rattle.tl_ast.specs.TestGrammar as g
use Rattle.tl_text.proofs.blocks.body.Given as goal

abbrev pub invariant-loop-turn : goal.invariant-loop-turn
invariant-loop-turn l =
    gathered l.found.items (many_at g.begins_stmt (g.stmt_in expr_limits (g.block_within expr_limits 32) 8).reads (l._turn-end - l._turn) l.tokens)
    ≡ (g.stmts_in expr_limits (g.block_within expr_limits 32) 8).reads l.fn.tokens
