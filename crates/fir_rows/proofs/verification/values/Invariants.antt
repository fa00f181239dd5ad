use Rattle.std.proofs.Common.{◌≡◌, ◌-◌}
use Rattle.text_grammar.specs.Part.{many, many_at}
use Rattle.text_grammar.specs.Terminals.{is_symbol}
use Rattle.text_grammar.specs.declared.item.Symbol.TheVariants as s
use Rattle.text_grammar.proofs.Reading.{gathered}
use Rattle.fir_ast.specs.Limits.{limits}
use Rattle.fir_ast.specs.RowGrammar as g
use Rattle.fir_rows.proofs.verification.values.Given as goal

abbrev pub invariant-loop-turn : goal.invariant-loop-turn
invariant-loop-turn l = gathered l.found.items (many_at (is_symbol s.Comma) (g.value limits).reads (l._turn-end - l._turn) l.tokens) ≡ (many (is_symbol s.Comma) (g.value limits)).reads l.fn.tokens
