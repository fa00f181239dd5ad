use Rattle.std.proofs.Common.{◌≡◌, ◌+◌, ◌≤◌, ◌++◌, length}
use Rattle.tl_lex.specs.Lex.{items_from, items_of}
use Rattle.tl_lex.proofs.text.items.Given as goal

abbrev pub invariant-loop-rest : goal.invariant-loop-rest
invariant-loop-rest l = record {
  so_far : l.found.items ++ items_from 0 l.place l.rest ≡ items_of l.text;
  line : l.place.line + length l.rest ≤ 1 + length l.text;
  column : l.place.column + length l.rest ≤ 1 + length l.text;
}

abbrev pub decreases-loop-rest : goal.decreases-loop-rest
decreases-loop-rest l = length l.rest
