use Rattle.std.proofs.Common.{◌≡◌, ◌≤◌, ◌+◌, drop}
use Rattle.tl_lex.specs.Lex.{place_behind}
use Rattle.tl_lex.proofs.text.place_behind.Given as goal

abbrev pub invariant-loop-byte : goal.invariant-loop-byte
invariant-loop-byte l = record {
  so_far : place_behind l.behind (drop l.byte-index l.bytes) ≡ place_behind l.fn.place l.bytes;
  line : l.behind.line ≤ l.fn.place.line + l.byte-index;
  column : l.behind.column ≤ l.fn.place.column + l.byte-index;
}
