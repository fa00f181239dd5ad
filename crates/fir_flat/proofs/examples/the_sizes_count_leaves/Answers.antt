use Rattle.fir_flat.proofs.LeafCounts.{counted}
use Rattle.fir_flat.proofs.examples.the_sizes_count_leaves.Goals as goal

pub returns : goal.returns
returns c = counted
