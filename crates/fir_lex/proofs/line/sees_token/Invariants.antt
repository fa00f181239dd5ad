use Rattle.std.proofs.Common.{◌≡◌, length}
use Rattle.fir_lex.specs.Pieces.{Known, pieces}
use Rattle.fir_lex.specs.Lines.{sees_token}
use Rattle.fir_lex.proofs.line.sees_token.Given as goal

abbrev pub invariant-loop-rest : goal.invariant-loop-rest
invariant-loop-rest l = (sees_token l.anywhere (pieces l.rest) ≡ sees_token l.anywhere (pieces l.bytes)) × Known l.unclosed l.rest

abbrev pub decreases-loop-rest : goal.decreases-loop-rest
decreases-loop-rest l = length l.rest
