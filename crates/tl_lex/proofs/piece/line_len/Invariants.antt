use Rattle.std.proofs.Common.{◌≡◌, ◌+◌, drop}
use Rattle.std.specs.List.{position_or_len}
use Rattle.tl_lex.specs.Pieces.{is_feed}
use Rattle.tl_lex.proofs.piece.line_len.Given as goal

abbrev pub invariant-loop-at : goal.invariant-loop-at
invariant-loop-at l = l.at + position_or_len is_feed (drop l.at l.text) ≡ position_or_len is_feed l.text
