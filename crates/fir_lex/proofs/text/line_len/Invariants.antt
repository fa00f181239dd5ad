use Rattle.std.proofs.Common.{◌≡◌, ◌+◌, drop}
use Rattle.std.specs.List.{position_or_len}
use Rattle.fir_lex.specs.Lex.{is_feed}
use Rattle.fir_lex.proofs.text.line_len.Given as goal

abbrev pub invariant-loop-at : goal.invariant-loop-at
invariant-loop-at l = l.at + position_or_len is_feed (drop l.at l.bytes) ≡ position_or_len is_feed l.bytes
