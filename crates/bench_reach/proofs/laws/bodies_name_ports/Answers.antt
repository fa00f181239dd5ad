use Rattle.bench_reach.proofs.Bodies.{bodies_name_ports}
use Rattle.bench_reach.proofs.laws.bodies_name_ports.Goals as goal

pub returns : goal.returns
returns c = bodies_name_ports
