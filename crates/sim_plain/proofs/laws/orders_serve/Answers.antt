use Rattle.sim_plain.specs.Ready.{numbers}
use Rattle.sim_plain.proofs.Designs.{in_order}
use Rattle.sim_plain.proofs.laws.orders_serve.Goals as goal

pub returns : goal.returns
returns c = λ net order o. in_order net (numbers order) o
