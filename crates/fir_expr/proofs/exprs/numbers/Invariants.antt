use Rattle.std.proofs.Common.{◌≡◌, ◌-◌}
use Rattle.text_grammar.specs.Terminals.{number}
use Rattle.text_grammar.proofs.Reading.{gathered}
use Rattle.fir_ast.specs.ExprGrammar as g
use Rattle.fir_expr.proofs.exprs.numbers.Given as goal

abbrev pub invariant-loop-turn : goal.invariant-loop-turn
invariant-loop-turn l = gathered l.found.items ((g.after_commas (l.fn.count - l._turn) number).reads l.tokens) ≡ (g.after_commas l.fn.count number).reads l.fn.tokens
