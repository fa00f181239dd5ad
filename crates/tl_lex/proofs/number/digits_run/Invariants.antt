use Rattle.std.proofs.Common.{◌≡◌, ◌+◌, drop}
use Rattle.tl_lex.specs.Pieces.{digits_run}
use Rattle.tl_lex.proofs.number.digits_run.Given as goal

abbrev pub invariant-loop-at : goal.invariant-loop-at
invariant-loop-at l = l.at + digits_run l.base (drop l.at l.text) ≡ digits_run l.base l.text
