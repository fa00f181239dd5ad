use Rattle.sim_plain.proofs.Designs.{sized_nets_fit}
use Rattle.sim_plain.proofs.laws.sized_nets_fit.Goals as goal

pub returns : goal.returns
returns c = sized_nets_fit
