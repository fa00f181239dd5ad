use Rattle.std.proofs.Common.{◌≡◌, ℕ, length, false}
use Rattle.net_graph.specs.Readers.{in_row}
use Rattle.net_graph.proofs.readers.empty_rows.Given as goal

abbrev pub invariant-loop : goal.invariant-loop
invariant-loop l = record {
  rows : length l.rows.items ≡ l.counter;
  empty : (z k : ℕ) → in_row l.rows.items z k ≡ false;
}
