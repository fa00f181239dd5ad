use Rattle.std.proofs.Common.{◌≡◌, ◌-◌}
use Rattle.text_grammar.specs.Part.{carried, many, many_at}
use Rattle.text_grammar.specs.Terminals.{is_symbol}
use Rattle.text_grammar.specs.declared.item.Symbol.TheVariants as s
use Rattle.tl_ast.specs.TestGrammar as g
use Rattle.tl_text.proofs.ports.dots.Given as goal

abbrev pub invariant-loop-turn : goal.invariant-loop-turn
invariant-loop-turn l = carried g.longer l.name (many_at (is_symbol s.Dot) g.field.reads (l._turn-end - l._turn) l.tokens) ≡ carried g.longer l.fn.first ((many (is_symbol s.Dot) g.field).reads l.fn.tokens)
