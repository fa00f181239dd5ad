use Rattle.std.proofs.Common.{◌≡◌, ◌+◌, drop}
use Rattle.fir_lex.specs.Pieces.{digits_run}
use Rattle.fir_lex.proofs.piece.digits_run.Given as goal

abbrev pub invariant-loop-at : goal.invariant-loop-at
invariant-loop-at l = l.at + digits_run l.base (drop l.at l.bytes) ≡ digits_run l.base l.bytes
