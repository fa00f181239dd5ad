use Rattle.std.proofs.Common.{◌≡◌, ◌-◌}
use Rattle.text_grammar.specs.Part.{carried, many, many_at}
use Rattle.tl_ast.specs.TestGrammar as g
use Rattle.tl_text.proofs.ports.suffixes.Given as goal

abbrev pub invariant-loop-turn : goal.invariant-loop-turn
invariant-loop-turn l = carried g.longer l.name (many_at g.is_suffix g.suffix.reads (l._turn-end - l._turn) l.tokens) ≡ carried g.longer l.fn.first ((many g.is_suffix g.suffix).reads l.fn.tokens)
