use Rattle.std.proofs.Common.{◌≡◌, ◌+◌, drop}
use Rattle.fir_lex.specs.Pieces.{before_closing}
use Rattle.fir_lex.proofs.piece.before_closing.Given as goal

abbrev pub invariant-loop-at : goal.invariant-loop-at
invariant-loop-at l = l.at + before_closing l.close l.before (drop l.at l.bytes) ≡ before_closing l.close l.first l.bytes
