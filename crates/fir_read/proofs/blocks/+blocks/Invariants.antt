use Rattle.std.proofs.Common.{◌≡◌, ◌+◌, ◌-◌, ◌*◌}
use Rattle.text_grammar.specs.Part.{many, many_at, carried}
use Rattle.fir_ast.specs.Limits.{limits}
use Rattle.fir_ast.specs.Lines as n
use Rattle.fir_ast.specs.CircuitGrammar as g
use Rattle.fir_ast.specs.CircuitGrammar.{nested_within}
use Rattle.fir_read.proofs.LineReading.{add_all}
use Rattle.fir_read.proofs.blocks.+blocks.Given as goal

abbrev pub decreases-when_word : goal.decreases-when_word
decreases-when_word l = 17 * l.depth

abbrev pub decreases-when_reference : goal.decreases-when_reference
decreases-when_reference l = 17 * l.depth

abbrev pub decreases-when_any : goal.decreases-when_any
decreases-when_any l = 17 * l.depth

abbrev pub decreases-when_is : goal.decreases-when_is
decreases-when_is l = 17 * l.depth + 1

abbrev pub decreases-when_named : goal.decreases-when_named
decreases-when_named l = 17 * l.depth + 2

abbrev pub decreases-when_from : goal.decreases-when_from
decreases-when_from l = 17 * l.depth + 3

abbrev pub decreases-statement : goal.decreases-statement
decreases-statement l = 17 * l.depth + 4

abbrev pub decreases-headed : goal.decreases-headed
decreases-headed l = 17 * l.depth + 5

abbrev pub decreases-row : goal.decreases-row
decreases-row l = 17 * l.depth + 6

abbrev pub decreases-first_row : goal.decreases-first_row
decreases-first_row l = 17 * l.depth + 7

abbrev pub decreases-more_rows : goal.decreases-more_rows
decreases-more_rows l = 17 * l.depth + 7

abbrev pub decreases-rows : goal.decreases-rows
decreases-rows l = 17 * l.depth + 8

abbrev pub decreases-block : goal.decreases-block
decreases-block l = 17 * l.depth + 9

abbrev pub decreases-opened_block : goal.decreases-opened_block
decreases-opened_block l = 17 * l.depth + 10

abbrev pub decreases-else_block : goal.decreases-else_block
decreases-else_block l = 17 * l.depth + 11

abbrev pub decreases-else_when : goal.decreases-else_when
decreases-else_when l = 17 * l.depth + 1

abbrev pub decreases-else_from : goal.decreases-else_from
decreases-else_from l = 17 * l.depth + 12

abbrev pub decreases-else_headed : goal.decreases-else_headed
decreases-else_headed l = 17 * l.depth + 13

abbrev pub decreases-else_line : goal.decreases-else_line
decreases-else_line l = 17 * l.depth + 14

abbrev pub decreases-branch : goal.decreases-branch
decreases-branch l = 17 * l.depth + 15

abbrev pub decreases-branches : goal.decreases-branches
decreases-branches l = 17 * l.depth + 16

abbrev pub invariant-more_rows-loop-turn : goal.invariant-more_rows-loop-turn
invariant-more_rows-loop-turn l = carried add_all l.found.items (many_at (n.is_line l.column) (g.row limits (nested_within limits l.depth) l.column).reads (l._turn-end - l._turn) l.tokens) ≡ carried g.rows_with l.fn.first ((many (n.is_line l.column) (g.row limits (nested_within limits l.depth) l.column)).reads l.fn.tokens)
