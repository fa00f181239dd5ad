use Rattle.std.proofs.Common.{◌≡◌, ◌-◌}
use Rattle.text_grammar.specs.Part.{carried}
use Rattle.fir_ast.specs.Limits.{limits}
use Rattle.fir_ast.specs.Lines as n
use Rattle.fir_ast.specs.CircuitGrammar as g
use Rattle.fir_ast.specs.CircuitGrammar.{nested_within, block_limit}
use Rattle.fir_read.proofs.BodyReading.{add_lines}
use Rattle.fir_read.proofs.modules.lines_behind.Given as goal

abbrev pub invariant-loop-turn : goal.invariant-loop-turn
invariant-loop-turn l = carried add_lines (l.ports.items, l.rows.items) (n.from_at (n.is_line l.fn.column) (λ z. (g.line limits (nested_within limits block_limit) l.fn.column z).reads) g.still_ports (l._turn-end - l._turn) l.follow l.tokens) ≡ (g.lines_behind limits (nested_within limits block_limit) l.fn.column l.fn.first).reads l.fn.tokens
