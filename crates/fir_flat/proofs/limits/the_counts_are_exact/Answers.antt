use Rattle.fir_flat.proofs.TreeCounts.{signals_counted, parts_counted}
use Rattle.fir_flat.proofs.limits.the_counts_are_exact.Goals as goal

pub returns : goal.returns
returns c = record {
  signals = signals_counted c.requires.0 c.args.circuit.now c.requires.1;
  parts = parts_counted c.requires.0 c.args.circuit.now c.requires.1;
}
