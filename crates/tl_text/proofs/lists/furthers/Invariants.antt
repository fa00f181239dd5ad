use Rattle.std.proofs.Common.{◌≡◌, ◌-◌}
use Rattle.text_grammar.specs.Part.{carried, cons, many_at}
use Rattle.text_grammar.specs.Terminals.{is_symbol}
use Rattle.text_grammar.specs.declared.item.Symbol.TheVariants as s
use Rattle.text_grammar.proofs.Reading.{gathered}
use Rattle.tl_ast.specs.ExprGrammar.{expr_limits}
use Rattle.tl_ast.specs.TestGrammar as g
use Rattle.tl_text.proofs.lists.furthers.Given as goal

abbrev pub invariant-loop-turn : goal.invariant-loop-turn
invariant-loop-turn l = gathered l.found.items (many_at (is_symbol s.Comma) (g.further expr_limits).reads (l._turn-end - l._turn) l.tokens) ≡ carried cons l.fn.first ((g.furthers expr_limits).reads l.fn.tokens)
