use Rattle.std.proofs.Common.{◌≡◌, ◌+◌, ◌++◌, length}
use Rattle.fir_lex.specs.Pieces.{Known, pieces}
use Rattle.fir_lex.specs.Lines.{items_from, unmarked}
use Rattle.fir_lex.proofs.line.add_unmarked.Given as goal

abbrev pub invariant-loop-rest : goal.invariant-loop-rest
invariant-loop-rest l =
    (l.items.items ++ items_from l.line l.column l.before.at_front l.before.located (pieces l.rest) ≡ l.initial.items.items ++ unmarked l.line l.bytes)
    × (l.column + length l.rest ≡ 1 + length l.bytes) × Known l.unclosed l.rest

abbrev pub decreases-loop-rest : goal.decreases-loop-rest
decreases-loop-rest l = length l.rest
