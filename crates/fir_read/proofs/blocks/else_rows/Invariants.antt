use Rattle.std.proofs.Common.{◌≡◌, ◌-◌}
use Rattle.text_grammar.specs.Part.{many_at}
use Rattle.text_grammar.proofs.Reading.{gathered}
use Rattle.fir_ast.specs.Limits.{limits}
use Rattle.fir_ast.specs.Lines as n
use Rattle.fir_ast.specs.CircuitGrammar as g
use Rattle.fir_read.proofs.blocks.else_rows.Given as goal

abbrev pub invariant-loop-turn : goal.invariant-loop-turn
invariant-loop-turn l = gathered l.found.items (many_at (n.is_else l.fn.column) (g.else_row limits l.fn.column).reads (l._turn-end - l._turn) l.tokens) ≡ (g.else_rows limits l.fn.column).reads l.fn.tokens
