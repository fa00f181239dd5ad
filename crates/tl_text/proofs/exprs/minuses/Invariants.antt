use Rattle.std.proofs.Common.{◌≡◌, ◌-◌}
use Rattle.text_grammar.specs.Terminals.{is_symbol}
use Rattle.text_grammar.specs.declared.item.Symbol.TheVariants as s
use Rattle.tl_ast.specs.Limits.{grow_at, always}
use Rattle.tl_ast.specs.ExprGrammar as g
use Rattle.tl_ast.specs.ExprGrammar.{expr_limits}
use Rattle.tl_text.proofs.exprs.minuses.Given as goal

abbrev pub invariant-loop-turn : goal.invariant-loop-turn
invariant-loop-turn l = grow_at always (is_symbol s.Minus) (λ b. (g.minus expr_limits.operators b).reads) (l._turn-end - l._turn) l.count l.tokens ≡ (g.minuses expr_limits.operators l.fn.first).reads l.fn.tokens
