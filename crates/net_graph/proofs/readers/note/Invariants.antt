use Rattle.std.proofs.Common.{◌≡◌, length, take}
use Rattle.net_graph.specs.Readers.{Noted}
use Rattle.net_graph.proofs.readers.note.Given as goal

abbrev pub invariant-loop-y : goal.invariant-loop-y
invariant-loop-y l = record {
  rows : length l.readers.items ≡ length l.fn.readers.items;
  noted : Noted l.x (take l.y-index l.list) l.fn.readers.items l.readers.items;
}
