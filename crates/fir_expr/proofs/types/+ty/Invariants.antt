use Rattle.std.proofs.Common.{◌≡◌, ◌+◌, ◌-◌, ◌*◌}
use Rattle.text_grammar.specs.Part.{carried, cons, many, many_at}
use Rattle.text_grammar.specs.Terminals.{is_symbol}
use Rattle.text_grammar.specs.declared.item.Symbol.TheVariants as s
use Rattle.text_grammar.proofs.Reading.{gathered}
use Rattle.fir_ast.specs.Limits.{limits}
use Rattle.fir_ast.specs.TypeGrammar as g
use Rattle.fir_expr.proofs.types.+ty.Given as goal

abbrev pub decreases-inside : goal.decreases-inside
decreases-inside l = 16 * l.depth

abbrev pub decreases-plain_field : goal.decreases-plain_field
decreases-plain_field l = 16 * l.depth + 1

abbrev pub decreases-flipped_field : goal.decreases-flipped_field
decreases-flipped_field l = 16 * l.depth + 1

abbrev pub decreases-field_after : goal.decreases-field_after
decreases-field_after l = 16 * l.depth + 2

abbrev pub decreases-field : goal.decreases-field
decreases-field l = 16 * l.depth + 3

abbrev pub decreases-further_field : goal.decreases-further_field
decreases-further_field l = 16 * l.depth + 4

abbrev pub decreases-further_fields : goal.decreases-further_fields
decreases-further_fields l = 16 * l.depth + 5

abbrev pub decreases-fields : goal.decreases-fields
decreases-fields l = 16 * l.depth + 6

abbrev pub decreases-bundle : goal.decreases-bundle
decreases-bundle l = 16 * l.depth + 7

abbrev pub decreases-base : goal.decreases-base
decreases-base l = 16 * l.depth + 8

abbrev pub decreases-ty_at : goal.decreases-ty_at
decreases-ty_at l = 16 * l.depth + 9

abbrev pub invariant-further_fields-loop-turn : goal.invariant-further_fields-loop-turn
invariant-further_fields-loop-turn l =
    gathered l.found (many_at (is_symbol s.Comma) (g.further_field (g.ty_inside limits.suffixes l.depth)).reads (l._turn-end - l._turn) l.tokens)
    ≡ carried cons l.fn.first ((many (is_symbol s.Comma) (g.further_field (g.ty_inside limits.suffixes l.depth))).reads l.fn.tokens)
