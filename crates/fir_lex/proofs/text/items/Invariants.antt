use Rattle.std.proofs.Common.{◌≡◌, ◌+◌, ◌≤◌, ◌++◌, length}
use Rattle.std.specs.List.{position_or_len, slice_split}
use Rattle.fir_lex.specs.Lex.{is_feed, lines_items}
use Rattle.fir_lex.proofs.text.items.Given as goal

abbrev pub invariant-loop-end : goal.invariant-loop-end
invariant-loop-end l =
    (l.found.items ++ lines_items l.line (slice_split is_feed l.rest) ≡ lines_items 1 (slice_split is_feed l.text)) × (l.end ≡ position_or_len is_feed l.rest) × (l.line + length l.rest ≤ 1 + length l.text) × (1 ≤ l.line)

abbrev pub decreases-loop-end : goal.decreases-loop-end
decreases-loop-end l = length l.rest
