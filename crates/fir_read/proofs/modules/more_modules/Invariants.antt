use Rattle.std.proofs.Common.{◌≡◌, ◌-◌}
use Rattle.text_grammar.specs.Part.{many, many_at, cons, carried}
use Rattle.text_grammar.proofs.Reading.{gathered}
use Rattle.fir_ast.specs.Limits.{limits}
use Rattle.fir_ast.specs.CircuitGrammar as g
use Rattle.fir_ast.specs.CircuitGrammar.{nested_within, block_limit}
use Rattle.fir_read.proofs.modules.more_modules.Given as goal

abbrev pub invariant-loop-turn : goal.invariant-loop-turn
invariant-loop-turn l = gathered l.found.items (many_at (g.is_module l.fn.column) (g.one_module limits (nested_within limits block_limit) l.fn.column).reads (l._turn-end - l._turn) l.tokens) ≡ carried cons l.fn.first ((many (g.is_module l.fn.column) (g.one_module limits (nested_within limits block_limit) l.fn.column)).reads l.fn.tokens)
