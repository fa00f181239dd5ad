use Rattle.std.proofs.Common.{◌≡◌}
use Rattle.tl_ast.specs.ExprGrammar as g
use Rattle.tl_text.proofs.exprs.negated.Given as goal

abbrev pub invariant-loop-turn : goal.invariant-loop-turn
invariant-loop-turn l = l.grown ≡ g.negated l._turn l.fn.of
